-- The table of digits says what a hexadecimal digit is.
use Rattle.std.proofs.Common.{◌≡◌, ℕ, zero, suc, ◌==◌, ◌<◌, ◌≤◌, nat_lt, Bool, true, false, ◌&&◌, Option, Some, None, if◌then◌else◌, slice_index, refl, ap, arith, inl, inr, true≢false, sym, ◌∙◌}
use Rattle.std.proofs.lemmas.Bool.{and_parts, cases_lt, eqb-true, lt-ltb, le-ltb}
use Rattle.json_value.specs.Strings.{hex_digit}
use Rattle.json_read.specs.declared.escape.TheConstants.{DIGITS}

abbrev below : (ℕ → Bool) → ℕ → Bool
below p zero = true
below p (suc n) = p n && below p n

below-at : (p : ℕ → Bool) (n k : ℕ) → below p n ≡ true → k < n → p k ≡ true
below-at p zero k h lt = absurd (omega arith)
below-at p (suc n) k h lt =
    let parts = and_parts (p n) (below p n) h in
    elim (cases_lt k n) [
      | inl under ↦ below-at p n k parts.1 under
      | inr top ↦
          let e : k ≡ n = omega arith in
          rw e parts.0
    ]

abbrev looked_up : ℕ → Option ℕ
looked_up b = if nat_lt (slice_index DIGITS b) 16 then Some (slice_index DIGITS b) else None

abbrev same : Option ℕ → Option ℕ → Bool
same None None = true
same None (Some b) = false
same (Some a) None = false
same (Some a) (Some b) = a == b

same-true : (o p : Option ℕ) → same o p ≡ true → o ≡ p
same-true None None h = refl
same-true None (Some b) h = absurd (true≢false (sym h))
same-true (Some a) None h = absurd (true≢false (sym h))
same-true (Some a) (Some b) h = ap Some (eqb-true a b h)

abbrev is_right : ℕ → Bool
is_right b = same (looked_up b) (hex_digit b)

digit_of : (b : ℕ) → b < 256 → looked_up b ≡ hex_digit b
digit_of b lt = same-true (looked_up b) (hex_digit b) (below-at is_right 256 b refl lt)

abbrev chosen : ℕ → Bool → Option ℕ
chosen b small = if small then Some (slice_index DIGITS b) else None

pub is_digit : (b : ℕ) → b < 256 → slice_index DIGITS b < 16 → Some (slice_index DIGITS b) ≡ hex_digit b
is_digit b byte small = sym (ap (chosen b) (lt-ltb (slice_index DIGITS b) 16 small)) ∙ digit_of b byte

pub no_digit : (b : ℕ) → b < 256 → 16 ≤ slice_index DIGITS b → None ≡ hex_digit b
no_digit b byte large = sym (ap (chosen b) (le-ltb (slice_index DIGITS b) 16 large)) ∙ digit_of b byte
