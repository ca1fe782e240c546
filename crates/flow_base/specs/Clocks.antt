-- Clocks that give the moments of a list.
use Rattle.std.specs.Prelude.{ℕ, ◌-◌, ◌^◌, nat_lt, ◌==◌, if◌then◌else◌, List, [], ◌∷◌, ◌++◌, length, slice_index, Option, Some, None}
use Rattle.std.proofs.Common.{zero, suc}

-- a clock: its moments, and how often it was read
pub record Watch : Type 0 where
  pub moments : List ℕ
  pub reads : ℕ

abbrev pub last_moment : List ℕ → ℕ
last_moment moments = slice_index moments (length moments - 1)

-- the moment that reading number k gives
abbrev pub moment_at : List ℕ → ℕ → ℕ
moment_at moments k = if nat_lt k (length moments) then slice_index moments k else last_moment moments

-- the first n moments that it gives
abbrev pub moments_given : List ℕ → ℕ → List ℕ
moments_given moments zero = []
moments_given moments (suc n) = moments_given moments n ++ moment_at moments n ∷ []

abbrev pub moments_told : Watch → Option (List ℕ)
moments_told w = if w.reads == 2 ^ 64 - 1 then None else Some (moments_given w.moments w.reads)
