-- The greatest number with a property, found by going up.
use Rattle.std.proofs.Common.{◌≡◌, ◌⊎◌, inl, inr, ℕ, ◌+◌, ◌<◌, Option, Some, None, arith, subst}
use Rattle.cache_model.specs.Journal.{IsLast}

-- the greatest number below n with the property, or none where no number below n has it
abbrev pub IsLastBelow : (ℕ → Type 0) → ℕ → Option ℕ → Type 0
IsLastBelow P n None = (p : ℕ) → p < n → P p → ⊥
IsLastBelow P n (Some q) = (q < n) × P q × ((p : ℕ) → q < p → p < n → P p → ⊥)

pub last_none : (P : ℕ → Type 0) → IsLastBelow P 0 None
last_none P p lt h = absurd (omega arith)

pub last_yes : (P : ℕ → Type 0) (n : ℕ) → P n → IsLastBelow P (n + 1) (Some n)
last_yes P n h = (omega arith, h, λ p above below q. absurd (omega arith))

upper : (P : ℕ → Type 0) (n p : ℕ) → (P n → ⊥) → p < n + 1 → P p → p < n
upper P n p none below h = elim (split p n below) [ inl lt ↦ lt | inr eq ↦ absurd (none (subst P eq h)) ]
  where
    split : (p n : ℕ) → p < n + 1 → (p < n) ⊎ (p ≡ n)
    split p n h = grind arith

pub last_no : (P : ℕ → Type 0) (n : ℕ) (o : Option ℕ) → (P n → ⊥) → IsLastBelow P n o → IsLastBelow P (n + 1) o
last_no P n None none last = λ p below h. last p (upper P n p none below h) h
last_no P n (Some q) none last = (omega (arith, last.0), last.1, λ p above below h. last.2 p above (upper P n p none below h) h)

-- below a bound of the property it is the greatest of all
pub last_all : (P : ℕ → Type 0) (n : ℕ) (o : Option ℕ) → ((p : ℕ) → P p → p < n) → IsLastBelow P n o → IsLast P o
last_all P n None bound last = λ p h. last p (bound p h) h
last_all P n (Some q) bound last = (last.1, λ p above h. last.2 p above (bound p h) h)
