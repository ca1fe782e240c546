-- Items one after another, of which each says what the next may be.
use Rattle.std.specs.Prelude.{◌≡◌, ℕ, zero, suc, Bool, List, [], ◌∷◌, ◌++◌, length}
use Rattle.token_read.specs.Lexeme.{Lexeme}
use Rattle.token_read.specs.Parse.{Parser, bind, pure, choose}
use Rattle.token_read.specs.Productions.{Grammar}

module _ {K S A : Type 0} (next : S → A → S) where
  abbrev pub Chain : (S → Grammar K A) → S → Grammar K (List A)
  Chain G s [] ts = ts ≡ []
  Chain G s (x ∷ xs) ts = (u : List (Lexeme K)) × (v : List (Lexeme K)) × G s x u × Chain G (next s x) xs v × (ts ≡ u ++ v)

module _ {K R S A : Type 0} (next : S → A → S) (test : K → Bool) (p : S → Parser K R A) where
  -- as many as begin, in at most so many turns
  unfoldable pub chain_in : ℕ → S → Parser K R (List A)
  chain_in zero s = pure []
  chain_in (suc n) s = choose test (bind (p s) (λ x. bind (chain_in n (next s x)) (λ xs. pure (x ∷ xs)))) (pure [])

  abbrev pub chain : S → Parser K R (List A)
  chain s = λ ts. chain_in (length ts) s ts
