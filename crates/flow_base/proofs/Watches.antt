-- What a clock in memory tells.
use Rattle.std.proofs.Common.{◌≡◌, ℕ, ◌+◌, ◌-◌, ◌^◌, ◌==◌, Bool, true, false, List, [], ◌∷◌, ◌++◌, Some, None, refl, ap, sym, ◌∙◌, arith, add-one}
use Rattle.std.specs.Prelude.{if◌then◌else◌, min}
use Rattle.std.proofs.lemmas.Bool.Decides.{nat_tests}
use Rattle.flow_base.specs.Logs.{Grows}
use Rattle.flow_base.specs.Clocks.{moment_at, moments_given, moments_told}

given_more : (moments : List ℕ) (n m : ℕ) → m ≡ n + 1 → moments_given moments m ≡ moments_given moments n ++ moment_at moments n ∷ []
given_more moments n m is = ap (moments_given moments) (is ∙ add-one n)

-- one more reading is told, until no more are counted
pub told_more : (moments : List ℕ) (n m r : ℕ) → m ≡ min (n + 1) (2 ^ 64 - 1) → r ≡ moment_at moments n → Grows (moments_told (record { moments = moments; reads = n })) (moments_told (record { moments = moments; reads = m })) (r ∷ [])
told_more moments n m r counted is = by_tests (n == 2 ^ 64 - 1) (m == 2 ^ 64 - 1) refl refl
  where
    by_tests : (a b : Bool) → (n == 2 ^ 64 - 1) ≡ a → (m == 2 ^ 64 - 1) ≡ b → Grows (if a then None else Some (moments_given moments n)) (if b then None else Some (moments_given moments m)) (r ∷ [])
    by_tests true true at_end now_end = tt
    by_tests false true at_end now_end = tt
    by_tests true false at_end now_end = absurd (grind (arith, nat_tests))
    by_tests false false at_end now_end =
        let next : m ≡ n + 1 = grind (arith, nat_tests) in
        given_more moments n m next ∙ ap (λ (x : ℕ). moments_given moments n ++ x ∷ []) (sym is)
