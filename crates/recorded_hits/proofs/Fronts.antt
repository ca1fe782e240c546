-- What stands in the front of a list.
use Rattle.std.proofs.Common.{◌≡◌, ℕ, zero, suc, ◌<◌, List, [], ◌∷◌, ◌++◌, take, drop, slice_get, Some, refl, ap, arith}

pub within_front : {X : Type 0} (n p : ℕ) (xs : List X) (x : X) → slice_get (take n xs) p ≡ Some x → (p < n) × (slice_get xs p ≡ Some x)
within_front zero p xs x h = absurd cc
within_front (suc n) p [] x h = absurd cc
within_front (suc n) zero (y ∷ xs) x h = (omega arith, h)
within_front (suc n) (suc p) (y ∷ xs) x h = let r = within_front n p xs x h in (omega (arith, r.0), r.1)

pub front_same : {X : Type 0} (n p : ℕ) (xs : List X) → p < n → slice_get (take n xs) p ≡ slice_get xs p
front_same zero p xs below = absurd (omega (arith, below))
front_same (suc n) p [] below = refl
front_same (suc n) zero (y ∷ xs) below = refl
front_same (suc n) (suc p) (y ∷ xs) below = front_same n p xs (omega (arith, below))

pub front_and_rest : {X : Type 0} (n : ℕ) (xs : List X) → take n xs ++ drop n xs ≡ xs
front_and_rest zero xs = refl
front_and_rest (suc n) [] = refl
front_and_rest {X = X} (suc n) (x ∷ xs) = ap (λ (ys : List X). x ∷ ys) (front_and_rest n xs)
