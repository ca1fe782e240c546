-- Serves private clauses and proofs alone.
-- A machine takes one token at a time, each with its place, and runs up to the first that it refuses.
use Rattle.std.specs.Prelude.{◌≡◌, ℕ, ◌+◌, List, [], ◌∷◌, ◌++◌, length, Result, Ok, Err}

module _ {S T R : Type 0} (step : ℕ → S → T → Result S R) where
  abbrev pub on_step : ℕ → Result S R → (S → Result S (R × ℕ)) → Result S (R × ℕ)
  on_step at (Ok s) f = f s
  on_step at (Err r) f = Err (r, at)

  -- the state after the last token, or the first refusal and its place
  unfoldable pub run : List T → ℕ → S → Result S (R × ℕ)
  run [] at s = Ok s
  run (t ∷ ts) at s = on_step at (step at s t) (run ts (at + 1))

  -- the tokens before the one that is refused, and the state there
  pub record Refused (ts : List T) (at : ℕ) (s : S) (r : R) (p : ℕ) : Type 0 where
    pub front : List T
    pub token : T
    pub rest : List T
    pub state : S
    pub parts : ts ≡ front ++ (token ∷ rest)
    pub place : p ≡ at + length front
    pub reaches : run front at s ≡ Ok state
    pub stops : step p state token ≡ Err r
