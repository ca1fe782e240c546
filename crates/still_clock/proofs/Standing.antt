-- A still clock gives its moment alone.
use Rattle.std.proofs.Common.{◌≡◌, ℕ, List, ◌∷◌, refl, sym, ap, ◌∙◌, Option, Some, None}
use Rattle.std.specs.Prelude.{Bool, true, false, ◌-◌, ◌^◌, ◌==◌, []}
use Rattle.flow_base.specs.Logs.{Grows}
use Rattle.still_clock.specs.declared.still.Still.{Still}
use Rattle.still_clock.specs.Clocks.{times, told, IsStill}

same_head : (a b : ℕ) (xs ys : List ℕ) → a ∷ xs ≡ b ∷ ys → a ≡ b
same_head a b xs ys e = cc

-- a still clock whose log begins with this moment gives no other
pub still_since : (moment : ℕ) (moments : List ℕ) (c : Still) (o : Option (List ℕ)) → told c ≡ o → Grows (Some (moment ∷ [])) o moments → IsStill moment o
still_since moment moments c None is grows = tt
still_since moment moments c (Some ms) is grows = by_count (c.reads == 2 ^ 64 - 1) refl
  where
    by_count : (b : Bool) → (c.reads == 2 ^ 64 - 1) ≡ b → IsStill moment (Some ms)
    by_count true e = let none : None ≡ Some ms = rw e at is in absurd cc
    by_count false e =
        let some : Some (c.moment ∷ times c.moment c.reads) ≡ Some ms = rw e at is in
        let all : c.moment ∷ times c.moment c.reads ≡ ms = cc in
        let same : c.moment ≡ moment = same_head c.moment moment (times c.moment c.reads) moments (all ∙ grows) in
        (c.reads, sym all ∙ ap (λ (m : ℕ). m ∷ times m c.reads) same)
