-- Clocks that stand still.
use Rattle.std.specs.Prelude.{◌≡◌, ℕ, ◌-◌, ◌^◌, ◌==◌, if◌then◌else◌, List, [], ◌∷◌, ◌++◌, Option, Some, None}
use Rattle.std.proofs.Common.{zero, suc}
use Rattle.still_clock.specs.declared.still.Still.{Still}

-- a moment, so many times
abbrev pub times : ℕ → ℕ → List ℕ
times moment zero = []
times moment (suc n) = times moment n ++ (moment ∷ [])

-- the clock tells its moment when it is set, and once more each time that it is read
abbrev pub told : Still → Option (List ℕ)
told c = if c.reads == 2 ^ 64 - 1 then None else Some (c.moment ∷ times c.moment c.reads)

-- where it is told what the clock gave, it was this moment each time
abbrev pub IsStill : ℕ → Option (List ℕ) → Type 0
IsStill moment None = Unit {0}
IsStill moment (Some moments) = (n : ℕ) × (moments ≡ moment ∷ times moment n)
