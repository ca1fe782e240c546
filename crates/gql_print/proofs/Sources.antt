-- The bytes of a token are those that it is read from.
use Rattle.std.proofs.Common.{◌≡◌, ℕ, zero, suc, ◌+◌, ◌-◌, ◌*◌, Bool, true, false, List, [], ◌∷◌, ◌++◌, length, take, drop, refl, sym, ap, subst, ◌∙◌, arith, length-append, ◌⊎◌, inl, inr}
use Rattle.std.specs.Prelude.{codes}
use Rattle.std.proofs.Math.Seq.{take-append_seam}
use Rattle.gql_tokens.specs.declared.kinds.Kind.{Kind}
use Rattle.gql_tokens.specs.declared.kinds.Kind.TheVariants as k
use Rattle.gql_tokens.specs.declared.scanner.Class.{Class}
use Rattle.gql_tokens.specs.declared.scanner.Class.TheVariants as c
use Rattle.gql_tokens.specs.Lexical.{Token, IsLexeme, mark, dots, name, number, empty, string, block, IsString, IsBlock, name_kind, token_of, between, MayFollow}
use Rattle.gql_tokens.specs.Lexical as lex
use Rattle.gql_print.specs.Canonical.{source_of, source, separator}
use Rattle.gql_print.proofs.Tokens.{name_cases, mark_cases}

-- ---- quotes at the end

string_ends : {w : List ℕ} → IsString w → (y : List ℕ) × (w ≡ y ++ (34 ∷ []))
string_ends lex.IsString.close = ([], refl)
string_ends (lex.IsString.plain b w is rest) = let r = string_ends rest in (b ∷ r.0, ap (λ (q : List ℕ). b ∷ q) r.1)
string_ends (lex.IsString.escape e w is rest) = let r = string_ends rest in (92 ∷ (e ∷ r.0), ap (λ (q : List ℕ). 92 ∷ (e ∷ q)) r.1)
string_ends (lex.IsString.unicode x y z u w hx hy hz hu rest) =
    let r = string_ends rest in (92 ∷ (117 ∷ (x ∷ (y ∷ (z ∷ (u ∷ r.0))))), ap (λ (q : List ℕ). 92 ∷ (117 ∷ (x ∷ (y ∷ (z ∷ (u ∷ q)))))) r.1)

block_ends : {w : List ℕ} → IsBlock w → (y : List ℕ) × (w ≡ y ++ (34 ∷ (34 ∷ (34 ∷ []))))
block_ends lex.IsBlock.close = ([], refl)
block_ends (lex.IsBlock.escaped w rest) = let r = block_ends rest in (92 ∷ (34 ∷ (34 ∷ (34 ∷ r.0))), ap (λ (q : List ℕ). 92 ∷ (34 ∷ (34 ∷ (34 ∷ q)))) r.1)
block_ends (lex.IsBlock.plain b w is one two rest) = let r = block_ends rest in (b ∷ r.0, ap (λ (q : List ℕ). b ∷ q) r.1)

-- without the quotes and with them again
string_between : (y : List ℕ) → between 1 (34 ∷ (y ++ (34 ∷ []))) ≡ y
string_between y =
    let total : length (y ++ (34 ∷ [])) ≡ length y + 1 = length-append y (34 ∷ []) in
    let n : suc (length (y ++ (34 ∷ []))) - 2 * 1 ≡ length y = omega arith in
    ap (λ (m : ℕ). take m (y ++ (34 ∷ []))) n ∙ take-append_seam y (34 ∷ [])

block_between : (y : List ℕ) → between 3 (34 ∷ (34 ∷ (34 ∷ (y ++ (34 ∷ (34 ∷ (34 ∷ []))))))) ≡ y
block_between y =
    let total : length (y ++ (34 ∷ (34 ∷ (34 ∷ [])))) ≡ length y + 3 = length-append y (34 ∷ (34 ∷ (34 ∷ []))) in
    let n : suc (suc (suc (length (y ++ (34 ∷ (34 ∷ (34 ∷ []))))))) - 2 * 3 ≡ length y = omega arith in
    ap (λ (m : ℕ). take m (y ++ (34 ∷ (34 ∷ (34 ∷ []))))) n ∙ take-append_seam y (34 ∷ (34 ∷ (34 ∷ [])))

pub source_is : (class : Class) (a : List ℕ) → IsLexeme class a → source (token_of class a) ≡ a
source_is _ _ (mark kind b e) = mark_cases (λ kind b. source_of kind (b ∷ []) ≡ b ∷ []) (refl, (refl, (refl, (refl, (refl, (refl, (refl, (refl, (refl, (refl, (refl, (refl, (refl, (refl, tt)))))))))))))) kind b e
source_is _ _ dots = refl
source_is _ _ (name b bs start rest) = name_cases (λ kind a. source_of kind a ≡ a) (refl, (refl, (refl, (refl, (refl, (refl, (refl, (refl, tt)))))))) (λ a. refl) (b ∷ bs)
source_is _ _ (number a is) = refl
source_is _ _ empty = refl
source_is _ _ (string b w first is) =
    let r = string_ends is in
    ap (λ (q : List ℕ). 34 ∷ (between 1 (34 ∷ q) ++ (34 ∷ []))) r.1 ∙ ap (λ (q : List ℕ). 34 ∷ (q ++ (34 ∷ []))) (string_between r.0) ∙ ap (λ (q : List ℕ). 34 ∷ q) (sym r.1)
source_is _ _ (block w is) =
    let r = block_ends is in
    ap (λ (q : List ℕ). 34 ∷ (34 ∷ (34 ∷ (between 3 (34 ∷ (34 ∷ (34 ∷ q))) ++ (34 ∷ (34 ∷ (34 ∷ []))))))) r.1
    ∙ ap (λ (q : List ℕ). 34 ∷ (34 ∷ (34 ∷ (q ++ (34 ∷ (34 ∷ (34 ∷ []))))))) (block_between r.0) ∙ ap (λ (q : List ℕ). 34 ∷ (34 ∷ (34 ∷ q))) (sym r.1)

-- ---- what follows

pub name_separator : (a : List ℕ) → separator (name_kind a) ≡ 32 ∷ []
name_separator a = name_cases (λ kind a. separator kind ≡ 32 ∷ []) (refl, (refl, (refl, (refl, (refl, (refl, (refl, (refl, tt)))))))) (λ a. refl) a

pub name_source : (a : List ℕ) → source_of (name_kind a) a ≡ a
name_source a = name_cases (λ kind a. source_of kind a ≡ a) (refl, (refl, (refl, (refl, (refl, (refl, (refl, (refl, tt)))))))) (λ a. refl) a

-- a space may follow any token
pub follows_space : (class : Class) (w : List ℕ) → MayFollow class (32 ∷ w)
follows_space (c.Mark kind) w = tt
follows_space c.Name w = refl
follows_space c.Number w = refl
follows_space c.Empty w = refl
follows_space c.Str w = tt
follows_space c.Block w = tt

pub follows_end : (class : Class) → MayFollow class []
follows_end (c.Mark kind) = tt
follows_end c.Name = tt
follows_end c.Number = tt
follows_end c.Empty = tt
follows_end c.Str = tt
follows_end c.Block = tt

-- anything may follow a token that no space separates
pub follows_any : (class : Class) (a w : List ℕ) → IsLexeme class a → separator (token_of class a).kind ≡ [] → MayFollow class w
follows_any (c.Mark kind) a w is e = tt
follows_any c.Name a w is e = absurd (some (32) [] (sym (name_separator a) ∙ e))
  where
    some : (x : ℕ) (xs : List ℕ) → x ∷ xs ≡ [] → ⊥
    some x xs e = cc
follows_any c.Number a w is e = absurd (some 32 [] e)
  where
    some : (x : ℕ) (xs : List ℕ) → x ∷ xs ≡ [] → ⊥
    some x xs e = cc
follows_any c.Empty a w is e = absurd (some 32 [] e)
  where
    some : (x : ℕ) (xs : List ℕ) → x ∷ xs ≡ [] → ⊥
    some x xs e = cc
follows_any c.Str a w is e = tt
follows_any c.Block a w is e = tt

-- a separator is nothing or a space
pub separator_is : (kind : Kind) → (separator kind ≡ []) ⊎ (separator kind ≡ 32 ∷ [])
separator_is k.Dollar = inl refl
separator_is k.At = inl refl
separator_is k.Bang = inr refl
separator_is k.Amp = inr refl
separator_is k.OpenParen = inr refl
separator_is k.CloseParen = inr refl
separator_is k.Dots = inr refl
separator_is k.Colon = inr refl
separator_is k.Equals = inr refl
separator_is k.OpenBracket = inr refl
separator_is k.CloseBracket = inr refl
separator_is k.OpenBrace = inr refl
separator_is k.Bar = inr refl
separator_is k.CloseBrace = inr refl
separator_is k.Query = inr refl
separator_is k.Mutation = inr refl
separator_is k.Subscription = inr refl
separator_is k.Fragment = inr refl
separator_is k.On = inr refl
separator_is k.True = inr refl
separator_is k.False = inr refl
separator_is k.Null = inr refl
separator_is k.Name = inr refl
separator_is k.Number = inr refl
separator_is k.Str = inr refl
separator_is k.Block = inr refl
separator_is k.Gap = inr refl
