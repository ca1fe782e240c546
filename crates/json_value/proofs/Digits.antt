-- The digits of a whole number.
use Rattle.std.proofs.Common.{◌≡◌, ℕ, zero, suc, ◌+◌, ◌-◌, ◌*◌, ◌<◌, ◌≤◌, ◌^◌, true, false, List, [], ◌∷◌, ◌++◌, Option, Some, None, MatchOption, length, take, get_or, refl, sym, subst, ◌⊎◌, inl, inr, arith, add-one}
use Rattle.std.specs.Prelude.{nat_le}
use Rattle.std.specs.Char.{digit_value}
use Rattle.std.specs.Str.Parse.{AllDigits, digits_value}
use Rattle.std.proofs.lemmas.Bool.{leb-true, le-leb, lt-ltb, le-ltb, and_parts, and_from, cases_eq}
use Rattle.std.proofs.lemmas.Int.Digits.{digits_value-lt, digits_value_more}
use Rattle.std.proofs.lemmas.List.{length-take-le}
use Rattle.std.proofs.Math.Nat.{pow-le-pow_right}
use Rattle.std.proofs.Math.Seq.{take-suc}
use Rattle.json_value.specs.Numbers.{is_digit, is_digit_1_9, AreDigits, IsInt, digits}
use Rattle.json_value.specs.Numbers as numbers
use Rattle.json_value.specs.Wholes.{IsWholeText}

bounds : (b : ℕ) → is_digit b ≡ true → (48 ≤ b) × (b ≤ 57)
bounds b is = let h = and_parts (nat_le 48 b) (nat_le b 57) is in (leb-true 48 b h.0, leb-true b 57 h.1)

pub digit_of : (b : ℕ) → 48 ≤ b → b ≤ 57 → is_digit b ≡ true
digit_of b low high = and_from (nat_le 48 b) (nat_le b 57) (le-leb 48 b low) (le-leb b 57 high)

value_is : (b : ℕ) → 48 ≤ b → b ≤ 57 → digit_value b ≡ b - 48
value_is b low high = rw (le-ltb b 48 low, lt-ltb b 58 (omega arith)) refl

all_digits : (bs : List ℕ) → AreDigits bs → AllDigits 10 bs
all_digits [] are = tt
all_digits (b ∷ bs) are =
    let h = bounds b are.0 in
    let v = value_is b h.0 h.1 in
    (omega arith, all_digits bs are.1)

-- 14 digits leave room for one more
pub room : (bs : List ℕ) (i n : ℕ) → AreDigits (take i bs) → n ≡ digits_value 10 (take i bs) → i < length bs → length bs ≤ 15 → n < 100000000000000
room bs i n are is lt le =
    let below : digits_value 10 (take i bs) < 10 ^ length (take i bs) = digits_value-lt 10 (take i bs) (all_digits (take i bs) are) in
    let long : length (take i bs) ≡ i = length-take-le i bs (omega arith) in
    let power : 10 ^ length (take i bs) ≤ 10 ^ 14 = pow-le-pow_right {n = 10} (omega arith) {i = length (take i bs)} {j = 14} (omega (arith, long)) in
    let whole : 10 ^ 14 ≡ 100000000000000 = refl in
    omega (arith, below, power, whole, is)

are_more : (xs : List ℕ) (b : ℕ) → AreDigits xs → is_digit b ≡ true → AreDigits (xs ++ (b ∷ []))
are_more [] b are is = (is, tt)
are_more (x ∷ xs) b are is = (are.0, are_more xs b are.1 is)

pub more : (bs : List ℕ) (i n : ℕ) → i < length bs → AreDigits (take i bs) → n ≡ digits_value 10 (take i bs) → is_digit (get_or bs i 0) ≡ true
    → AreDigits (take (i + 1) bs) × (n * 10 + (get_or bs i 0 - 48) ≡ digits_value 10 (take (i + 1) bs))
more bs i n lt are is here =
    let h = bounds (get_or bs i 0) here in (
      rw (add-one, take-suc bs i 0 lt) (are_more (take i bs) (get_or bs i 0) are here),
      rw (digits_value_more 10 bs i lt, value_is (get_or bs i 0) h.0 h.1, is) refl,
    )

pub each : (bs : List ℕ) (i : ℕ) → AreDigits bs → i < length bs → is_digit (get_or bs i 0) ≡ true
each [] i are lt = absurd (omega arith)
each (b ∷ bs) zero are lt = are.0
each (b ∷ bs) (suc i) are lt = each bs i are.1 (omega arith)

pub not_each : (bs : List ℕ) (i : ℕ) → i < length bs → is_digit (get_or bs i 0) ≡ false → AreDigits bs → ⊥
not_each bs i lt no_digit are =
    let here = each bs i are lt in
    absurd cc

pub digit_bounds : (b : ℕ) → is_digit b ≡ true → (48 ≤ b) × (b ≤ 57)
digit_bounds b is = bounds b is

-- ---- the integers of the grammar

pub int_digits : (a : List ℕ) → IsInt a → AreDigits a
int_digits _ numbers.zero = (refl, tt)
int_digits _ (digits b bs is are) =
    let h = and_parts (nat_le 49 b) (nat_le b 57) is in
    let low = leb-true 49 b h.0 in
    (digit_of b (omega arith) (leb-true b 57 h.1), are)

pub int_long : (a : List ℕ) → IsInt a → 0 < length a
int_long _ numbers.zero = omega arith
int_long _ (digits b bs is are) = omega arith

pub int_first : (a : List ℕ) → IsInt a → get_or a 0 0 ≡ 48 → length a ≤ 1
int_first _ numbers.zero same = omega arith
int_first _ (digits b bs is are) same =
    let h = and_parts (nat_le 49 b) (nat_le b 57) is in
    let low = leb-true 49 b h.0 in
    let is_48 : b ≡ 48 = same in
    absurd (omega arith)

pub digits_int : (a : List ℕ) → AreDigits a → 0 < length a → (get_or a 0 0 ≡ 48 → length a ≤ 1) → IsInt a
digits_int [] are long first = absurd (omega arith)
digits_int (b ∷ bs) are long first = by_first (cases_eq b 48)
  where
    by_first : (b ≡ 48) ⊎ (b ≡ 48 → ⊥) → IsInt (b ∷ bs)
    by_first (inl same) = subst (λ (k : ℕ). IsInt (k ∷ bs)) (sym same) (alone bs (first same))
      where
        alone : (bs : List ℕ) → suc (length bs) ≤ 1 → IsInt (48 ∷ bs)
        alone [] le = numbers.zero
        alone (c ∷ cs) le = absurd (omega arith)
    by_first (inr other) =
        let h = bounds b are.0 in
        digits b bs (and_from (nat_le 49 b) (nat_le b 57) (le-leb 49 b (omega (arith, other, h.0))) (le-leb b 57 h.1)) are.1

pub text_whole : (r : Option ℕ) (a : List ℕ) → 0 < length a → length a ≤ 15 → (get_or a 0 0 ≡ 48 → length a ≤ 1) → MatchOption r (AreDigits a → ⊥) (λ n. AreDigits a × (n ≡ digits_value 10 a)) → MatchOption r ((n : ℕ) → IsWholeText a n → ⊥) (IsWholeText a)
text_whole None a long short first h = λ n k. h (int_digits a k.0)
text_whole (Some n) a long short first h = (digits_int a h.0 long first, short, h.1)
