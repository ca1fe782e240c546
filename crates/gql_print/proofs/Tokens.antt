-- What the tokens that some bytes are look like, by their kinds.
use Rattle.std.proofs.Common.{◌≡◌, ℕ, zero, suc, Bool, true, false, List, [], ◌∷◌, ◌++◌, Option, Some, None, refl, sym, ap, subst, ◌∙◌}
use Rattle.std.specs.Prelude.{codes, ◌==◌, if◌then◌else◌}
use Rattle.std.specs.Str.{bytes_eq}
use Rattle.std.proofs.lemmas.Slice.Eq.{bytes_eq-Decides}
use Rattle.std.proofs.lemmas.Bool.{eqb-true}
use Rattle.gql_tokens.specs.declared.kinds.Kind.{Kind}
use Rattle.gql_tokens.specs.declared.kinds.Kind.TheVariants as k
use Rattle.gql_tokens.specs.declared.scanner.Class.{Class}
use Rattle.gql_tokens.specs.declared.scanner.Class.TheVariants as c
use Rattle.gql_tokens.specs.KindTests.{same_kind, is_name}
use Rattle.gql_tokens.specs.Lexical.{Token, IsLexeme, mark, dots, name, number, empty, string, block, mark_of, grammar_words, word_among, name_kind, token_of, IsReal}
use Rattle.gql_tokens.proofs.Samples.{same_is}
use Rattle.gql_print.specs.Words as w

-- ---- names are grammar_words of the grammar, or other names

module _ (P : Kind → List ℕ → Type 0) where
  abbrev pub ForWords : List (List ℕ × Kind) → Type 0
  ForWords [] = Unit {0}
  ForWords (x ∷ xs) = P x.1 x.0 × ForWords xs

  among : (xs : List (List ℕ × Kind)) → ForWords xs → ((a : List ℕ) → P k.Name a) → (a : List ℕ) → P (word_among xs a) a
  among [] all other a = other a
  among (x ∷ xs) all other a = go (bytes_eq a x.0) refl (among xs all.1 other a)
    where
      go : (b : Bool) → bytes_eq a x.0 ≡ b → P (word_among xs a) a → P (if b then x.1 else word_among xs a) a
      go true e rest = subst (λ (q : List ℕ). P x.1 q) (sym ((bytes_eq-Decides a x.0).0 e)) all.0
      go false e rest = rest

  pub name_cases : ForWords grammar_words → ((a : List ℕ) → P k.Name a) → (a : List ℕ) → P (name_kind a) a
  unfolding name_kind
  name_cases all other a = among grammar_words all other a

-- ---- punctuators

abbrev pub marks : List (ℕ × Kind)
marks = (33, k.Bang) ∷ ((36, k.Dollar) ∷ ((38, k.Amp) ∷ ((40, k.OpenParen) ∷ ((41, k.CloseParen) ∷ ((58, k.Colon) ∷ ((61, k.Equals) ∷ ((64, k.At)
    ∷ ((91, k.OpenBracket) ∷ ((93, k.CloseBracket) ∷ ((123, k.OpenBrace) ∷ ((124, k.Bar) ∷ ((125, k.CloseBrace) ∷ ((256, k.Gap) ∷ [])))))))))))))

abbrev pub mark_among : List (ℕ × Kind) → ℕ → Option Kind
mark_among [] b = None
mark_among (x ∷ xs) b = if b == x.0 then Some x.1 else mark_among xs b

module _ (P : Kind → ℕ → Type 0) where
  abbrev pub ForMarks : List (ℕ × Kind) → Type 0
  ForMarks [] = Unit {0}
  ForMarks (x ∷ xs) = P x.1 x.0 × ForMarks xs

  among_marks : (xs : List (ℕ × Kind)) → ForMarks xs → (kind : Kind) (b : ℕ) → mark_among xs b ≡ Some kind → P kind b
  among_marks [] all kind b e = absurd (none e)
    where
      none : ◌≡◌ {A = Option Kind} None (Some kind) → ⊥
      none e = cc
  among_marks (x ∷ xs) all kind b e = go (b == x.0) refl (λ r. among_marks xs all.1 kind b r) e
    where
      some_is : {p q : Kind} → Some p ≡ Some q → p ≡ q
      some_is e = cc

      go : (t : Bool) → (b == x.0) ≡ t → (mark_among xs b ≡ Some kind → P kind b) → (if t then Some x.1 else mark_among xs b) ≡ Some kind → P kind b
      go true is rest e = subst (λ (q : Kind). P q b) (some_is e) (subst (λ (q : ℕ). P x.1 q) (sym (eqb-true b x.0 is)) all.0)
      go false is rest e = rest e

  pub mark_cases : ForMarks marks → (kind : Kind) (b : ℕ) → mark_of b ≡ Some kind → P kind b
  mark_cases all kind b e = among_marks marks all kind b e

-- ---- the text of a token, where its kind alone has it

abbrev pub text_or : Kind → List ℕ → List ℕ
text_or k.Bang a = codes "!"
text_or k.Dollar a = codes "$"
text_or k.Amp a = codes "&"
text_or k.OpenParen a = codes "("
text_or k.CloseParen a = codes ")"
text_or k.Dots a = codes "..."
text_or k.Colon a = codes ":"
text_or k.Equals a = codes "="
text_or k.At a = codes "@"
text_or k.OpenBracket a = codes "["
text_or k.CloseBracket a = codes "]"
text_or k.OpenBrace a = codes "{"
text_or k.Bar a = codes "|"
text_or k.CloseBrace a = codes "}"
text_or k.Query a = codes "query"
text_or k.Mutation a = codes "mutation"
text_or k.Subscription a = codes "subscription"
text_or k.Fragment a = codes "fragment"
text_or k.On a = codes "on"
text_or k.True a = codes "true"
text_or k.False a = codes "false"
text_or k.Null a = codes "null"
text_or _ a = a

abbrev pub HasText : Kind → List ℕ → Type 0
HasText kind a = a ≡ text_or kind a

lexeme_text : (class : Class) (a : List ℕ) → IsLexeme class a → HasText (token_of class a).kind (token_of class a).text
lexeme_text _ _ (mark kind b e) = mark_cases (λ kind b. HasText kind (b ∷ [])) (refl, (refl, (refl, (refl, (refl, (refl, (refl, (refl, (refl, (refl, (refl, (refl, (refl, (refl, tt)))))))))))))) kind b e
lexeme_text _ _ dots = refl
lexeme_text _ _ (name b bs start rest) = name_cases HasText (refl, (refl, (refl, (refl, (refl, (refl, (refl, (refl, tt)))))))) (λ a. refl) (b ∷ bs)
lexeme_text _ _ (number a is) = refl
lexeme_text _ _ empty = refl
lexeme_text _ _ (string b w first is) = refl
lexeme_text _ _ (block w is) = refl

pub real_text : (t : Token) → IsReal t → HasText t.kind t.text
real_text t (class, a, is, same) = subst (λ (q : Token). HasText q.kind q.text) (sym same) (lexeme_text class a is)

-- a token of a kind that has one text
pub fixed_is : (t : Token) (kind : Kind) (text : List ℕ) → IsReal t → ((a : List ℕ) → text_or kind a ≡ text) → same_kind kind t.kind ≡ true → t ≡ w.token kind text
fixed_is t kind text real one e = made t.kind t.text (same_is kind t.kind e) (real_text t real)
  where
    made : (other : Kind) (a : List ℕ) → kind ≡ other → HasText other a → w.token other a ≡ w.token kind text
    made other a same has = ap (λ (q : Kind). w.token q a) (sym same) ∙ ap (λ (q : List ℕ). w.token kind q) (has ∙ ap (λ (q : Kind). text_or q a) (sym same) ∙ one a)

-- ---- names

abbrev pub IsNamed : Kind → List ℕ → Type 0
IsNamed kind a = is_name kind ≡ true → name_kind a ≡ kind

no_name : {A : Type 0} → false ≡ true → A
no_name e = absurd (differ e)
  where
    differ : false ≡ true → ⊥
    differ e = cc

lexeme_name : (class : Class) (a : List ℕ) → IsLexeme class a → IsNamed (token_of class a).kind (token_of class a).text
lexeme_name _ _ (mark kind b e) = mark_cases (λ kind b. IsNamed kind (b ∷ []))
    (no_name, (no_name, (no_name, (no_name, (no_name, (no_name, (no_name, (no_name, (no_name, (no_name, (no_name, (no_name, (no_name, (no_name, tt)))))))))))))) kind b e
lexeme_name _ _ dots = no_name
lexeme_name _ _ (name b bs start rest) = λ e. refl
lexeme_name _ _ (number a is) = no_name
lexeme_name _ _ empty = no_name
lexeme_name _ _ (string b w first is) = no_name
lexeme_name _ _ (block w is) = no_name

pub name_is : (t : Token) → IsReal t → is_name t.kind ≡ true → t ≡ w.name t.text
name_is t (class, a, is, same) e =
    let named : name_kind t.text ≡ t.kind = subst (λ (q : Token). IsNamed q.kind q.text) (sym same) (lexeme_name class a is) e in
    ap (λ (q : Kind). w.token q t.text) (sym named)
