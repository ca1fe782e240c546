-- Grammars whose values have one list of tokens that some bytes are.
use Rattle.std.proofs.Common.{◌≡◌, ℕ, Bool, true, false, List, [], ◌∷◌, ◌++◌, refl, sym, ap, subst, ◌∙◌, ◌⊎◌, inl, inr, append_assoc}
use Rattle.std.specs.Prelude.{map}
use Rattle.token_read.specs.Lexeme.{Lexeme}
use Rattle.token_read.specs.Exact.{AreReal, Each, Either, Token}
use Rattle.token_read.specs.Productions.{Grammar, Text, After, Before, Enclosed, Both, Made, Optional, Several}
use Rattle.gql_tokens.specs.declared.kinds.Kind.{Kind}
use Rattle.gql_tokens.specs.declared.kinds.Kind.TheVariants as k
use Rattle.gql_tokens.specs.KindTests.{is_name}
use Rattle.gql_tokens.specs.Lexical as lex
use Rattle.gql_terms.specs.Grammar.{Rule, is}
use Rattle.gql_print.specs.Words.{token, name, joined, enclosed}
use Rattle.gql_print.proofs.Tokens.{text_or, fixed_is, name_is}

-- a token that some bytes are; a gap is none
abbrev pub Proper : lex.Token → Type 0
Proper t = lex.IsReal t × (t.kind ≡ k.Gap → ⊥)

abbrev pub AreProper : List lex.Token → Type 0
AreProper ts = AreReal Proper ts

pub front_proper : (u v : List lex.Token) → AreProper (u ++ v) → AreProper u
front_proper [] v h = tt
front_proper (t ∷ u) v h = (h.0, front_proper u v h.1)

pub back_proper : (u v : List lex.Token) → AreProper (u ++ v) → AreProper v
back_proper [] v h = h
back_proper (t ∷ u) v h = back_proper u v h.1

pub append_proper : (u v : List lex.Token) → AreProper u → AreProper v → AreProper (u ++ v)
append_proper [] v a b = b
append_proper (t ∷ u) v a b = (a.0, append_proper u v a.1 b)

-- each list of such tokens for a value is the one that is made of it
pub record Writes {A : Type 0} (G : Rule A) (f : A → List lex.Token) : Type 0 where
  pub is : (x : A) (ts : List lex.Token) → AreProper ts → G x ts → ts ≡ f x

-- the tokens that pass a test are one
abbrev pub One : (Kind → Bool) → lex.Token → Type 0
One test u = (t : lex.Token) → Proper t → test t.kind ≡ true → t ≡ u

pub one_kind : (kind : Kind) (text : List ℕ) → ((a : List ℕ) → text_or kind a ≡ text) → One (is kind) (token kind text)
one_kind kind text same t proper e = fixed_is t kind text proper.0 same e

pub token_text : (t u : lex.Token) (ts : List lex.Token) → t ≡ u → ts ≡ t ∷ [] → ts ≡ u ∷ []
token_text t u ts same cut = cut ∙ ap (λ (q : lex.Token). q ∷ []) same

pub text_writes : (test : Kind → Bool) → ((t : lex.Token) → Proper t → test t.kind ≡ true → t ≡ name t.text) → Writes (Text test) (λ (a : List ℕ). name a ∷ [])
text_writes test named = record {
  is = λ x ts proper g. token_text g.0 (name x) ts (named g.0 (subst AreProper g.3 proper).0 g.1 ∙ ap name (sym g.2)) g.3;
}

pub after_writes : {A : Type 0} (test : Kind → Bool) (u : lex.Token) (G : Rule A) (f : A → List lex.Token) → One test u → Writes G f → Writes (After test G) (λ x. u ∷ f x)
after_writes test u G f one w = record {
  is = λ x ts proper g.
      (let here : AreProper (g.0 ∷ g.1) = subst AreProper g.4 proper in
      g.4 ∙ ap (λ (q : lex.Token). q ∷ g.1) (one g.0 here.0 g.2) ∙ ap (λ (q : List lex.Token). u ∷ q) (w.is x g.1 here.1 g.3));
}

pub before_writes : {A : Type 0} (test : Kind → Bool) (u : lex.Token) (G : Rule A) (f : A → List lex.Token) → One test u → Writes G f → Writes (Before G test) (λ x. f x ++ (u ∷ []))
before_writes test u G f one w = record {
  is = λ x ts proper g.
      (let here : AreProper (g.0 ++ (g.1 ∷ [])) = subst AreProper g.4 proper in
      g.4 ∙ ap (λ (q : lex.Token). g.0 ++ (q ∷ [])) (one g.1 (back_proper g.0 (g.1 ∷ []) here).0 g.3) ∙ ap (λ (q : List lex.Token). q ++ (u ∷ [])) (w.is x g.0 (front_proper g.0 (g.1 ∷ []) here) g.2));
}

pub enclosed_writes : {A : Type 0} (opens closes : Kind → Bool) (u v : lex.Token) (G : Rule A) (f : A → List lex.Token) → One opens u → One closes v → Writes G f → Writes (Enclosed opens G closes) (λ x. u ∷ (f x ++ (v ∷ [])))
enclosed_writes opens closes u v G f one two w = after_writes opens u (Before G closes) (λ x. f x ++ (v ∷ [])) one (before_writes closes v G f two w)

pub both_writes : {A B : Type 0} (G : Rule A) (H : Rule B) (f : A → List lex.Token) (h : B → List lex.Token) → Writes G f → Writes H h → Writes (Both G H) (λ (p : A × B). f p.0 ++ h p.1)
both_writes G H f h w z = record {
  is = λ x ts proper g.
      (let here : AreProper (g.0 ++ g.1) = subst AreProper g.4 proper in
      g.4 ∙ ap (λ (q : List lex.Token). q ++ g.1) (w.is x.0 g.0 (front_proper g.0 g.1 here) g.2) ∙ ap (λ (q : List lex.Token). f x.0 ++ q) (z.is x.1 g.1 (back_proper g.0 g.1 here) g.3));
}

pub made_writes : {A B : Type 0} (m : A → B) (G : Rule A) (f : A → List lex.Token) (h : B → List lex.Token) → ((a : A) → f a ≡ h (m a)) → Writes G f → Writes (Made m G) h
made_writes m G f h same w = record { is = λ x ts proper g. w.is g.0 ts proper g.2 ∙ same g.0 ∙ ap h (sym g.1) }

pub either_writes : {A : Type 0} (G H : Rule A) (f : A → List lex.Token) → Writes G f → Writes H f → Writes (Either G H) f
either_writes G H f w z = record { is = λ x ts proper g. elim g [ inl a ↦ w.is x ts proper a | inr b ↦ z.is x ts proper b ] }

pub optional_writes : {A : Type 0} (G : Rule A) (none : A) (f : A → List lex.Token) → f none ≡ [] → Writes G f → Writes (Optional G none) f
optional_writes G none f nothing w = record { is = λ x ts proper g. elim g [ inl a ↦ w.is x ts proper a | inr b ↦ b.1 ∙ sym (ap f b.0 ∙ nothing) ] }

each_is : {A : Type 0} (G : Rule A) (f : A → List lex.Token) → Writes G f → (xs : List A) (ts : List lex.Token) → AreProper ts → Each G xs ts → ts ≡ joined (map f xs)
each_is G f w [] ts proper g = g
each_is G f w (x ∷ xs) ts proper g =
    let here : AreProper (g.0 ++ g.1) = subst AreProper g.4 proper in
    g.4 ∙ ap (λ (q : List lex.Token). q ++ g.1) (w.is x g.0 (front_proper g.0 g.1 here) g.2) ∙ ap (λ (q : List lex.Token). f x ++ q) (each_is G f w xs g.1 (back_proper g.0 g.1 here) g.3)

pub each_writes : {A : Type 0} (G : Rule A) (f : A → List lex.Token) → Writes G f → Writes (Each G) (λ xs. joined (map f xs))
each_writes G f w = record { is = each_is G f w }

-- at least one in brackets
pub several_writes : {A : Type 0} (opens closes : Kind → Bool) (u v : lex.Token) (G : Rule A) (f : A → List lex.Token) → One opens u → One closes v → Writes G f
    → Writes (Enclosed opens (Several G) closes) (λ xs. enclosed u (map f xs) v)
several_writes {A} opens closes u v G f one two w = record { is = go }
  where
    inside : Writes (Enclosed opens (Each G) closes) (λ xs. u ∷ (joined (map f xs) ++ (v ∷ [])))
    inside = enclosed_writes opens closes u v (Each G) (λ xs. joined (map f xs)) one two (each_writes G f w)

    go : (xs : List A) (ts : List lex.Token) → AreProper ts → Enclosed opens (Several G) closes xs ts → ts ≡ enclosed u (map f xs) v
    go xs ts proper (t, rest, opened, (middle, last, (x, ys, is, each), closed, cut), begins) =
        inside.is (x ∷ ys) ts proper (t, rest, opened, (middle, last, each, closed, cut), begins) ∙ ap (λ (q : List A). enclosed u (map f q) v) (sym is)
