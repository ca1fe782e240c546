-- An element of a list, and what stands after it.
use Rattle.std.proofs.Common.{◌≡◌, ℕ, zero, suc, ◌<◌, List, [], ◌∷◌, Some, refl, arith, length, drop, get_or}
use Rattle.std.specs.Prelude.{slice_get}

pub within : {X : Type 0} (xs : List X) (i : ℕ) (x : X) → slice_get xs i ≡ Some x → i < length xs
within [] i x is = cc
within (y ∷ xs) zero x is = omega arith
within (y ∷ xs) (suc i) x is = let below = within xs i x is in omega arith

pub cut : {X : Type 0} (xs : List X) (i : ℕ) (x : X) → slice_get xs i ≡ Some x → drop i xs ≡ x ∷ drop (suc i) xs
cut [] i x is = cc
cut (y ∷ xs) zero x is = let same : y ≡ x = cc in rw same refl
cut (y ∷ xs) (suc i) x is = cut xs i x is

-- what stands there in another list that goes on in the same way
pub same_there : {X : Type 0} (xs ys : List X) (i : ℕ) (x : X) → drop i xs ≡ drop i ys → slice_get xs i ≡ Some x → slice_get ys i ≡ Some x
same_there [] ys i x same is = cc
same_there (z ∷ xs) [] zero x same is = cc
same_there (z ∷ xs) (y ∷ ys) zero x same is = let e : z ≡ y = cc in rw (← e) is
same_there (z ∷ xs) [] (suc i) x same is = let c = cut xs i x is in cc
same_there (z ∷ xs) (y ∷ ys) (suc i) x same is = same_there xs ys i x same is

pub element_of : {X : Type 0} (xs : List X) (i : ℕ) (x d : X) → slice_get xs i ≡ Some x → get_or xs i d ≡ x
element_of [] i x d is = cc
element_of (y ∷ xs) zero x d is = cc
element_of (y ∷ xs) (suc i) x d is = element_of xs i x d is

pub read : {X : Type 0} (xs : List X) (i : ℕ) (x : X) → i < length xs → x ≡ get_or xs i x → slice_get xs i ≡ Some x
read [] i x lt is = absurd (omega arith)
read (y ∷ xs) zero x lt is = let same : x ≡ y = is in rw same refl
read (y ∷ xs) (suc i) x lt is = read xs i x (omega arith) is
