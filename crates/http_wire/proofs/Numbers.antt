-- Fifteen digits write a small number.
use Rattle.std.proofs.Common.{◌≡◌, ◌∙◌, sym, ap, ℕ, ◌+◌, ◌-◌, ◌*◌, ◌^◌, List, [], ◌∷◌, length, take, ◌<◌, ◌≤◌, arith, get_or, Bool, true, refl}
use Rattle.std.proofs.Math.Nat.{pow-le-pow_right}
use Rattle.std.proofs.lemmas.List.{take_more}
use Rattle.std.proofs.lemmas.Int.Digits.{digits_value_push}
use Rattle.std.specs.Str.Parse.{digits_value}
use Rattle.std.specs.Char.{digit_value, is_ascii_digit}
use Rattle.std.specs.List.{list_all}
use Rattle.std.proofs.lemmas.List.Folds.{list_all-append}
use Rattle.std.proofs.lemmas.Bool.Decides.{nat_tests}
use native.Mathlib.Numerals.{unary_clauses}

pub is_small : (n i k : ℕ) → n < 10 ^ i → i < k → k ≤ 15 → n < 100000000000000
is_small n i k below less most =
    let up : 10 ^ i ≤ 10 ^ 14 = pow-le-pow_right {n = 10} (omega arith) {i = i} {j = 14} (omega arith) in
    let top : 10 ^ i ≤ 100000000000000 = up in
    omega arith

pub one_more : (n i d : ℕ) → n < 10 ^ i → d < 10 → n * 10 + d < 10 ^ (i + 1)
one_more n i d below digit = let next : 10 ^ (i + 1) ≡ 10 ^ i * 10 = simp unary_clauses refl in omega arith

pub next_number : (bytes : List ℕ) (i n d : ℕ) → i < length bytes → n ≡ digits_value 10 (take i bytes) → digit_value (get_or bytes i 0) ≡ d → n * 10 + d ≡ digits_value 10 (take (i + 1) bytes)
next_number bytes i n d lt so_far digit =
    ap (λ m. m * 10 + d) so_far ∙ ap (λ e. digits_value 10 (take i bytes) * 10 + e) (sym digit)
    ∙ sym (digits_value_push 10 (take i bytes) (get_or bytes i 0)) ∙ ap (digits_value 10) (sym (take_more bytes i 0 lt))

pub low_digit : (c : ℕ) → is_ascii_digit c ≡ true → 48 ≤ c
low_digit c digit = grind (arith, nat_tests)

pub high_digit : (c : ℕ) → is_ascii_digit c ≡ true → c ≤ 57
high_digit c digit = grind (arith, nat_tests)

pub digit_worth : (c : ℕ) → is_ascii_digit c ≡ true → digit_value c ≡ c - 48
digit_worth c digit = let low = low_digit c digit in let high = high_digit c digit in grind (arith, nat_tests)

pub digits_more : (bytes : List ℕ) (i : ℕ) → i < length bytes → list_all is_ascii_digit (take i bytes) ≡ true → is_ascii_digit (get_or bytes i 0) ≡ true → list_all is_ascii_digit (take (i + 1) bytes) ≡ true
digits_more bytes i lt so_far digit =
    ap (list_all is_ascii_digit) (take_more bytes i 0 lt) ∙ list_all-append is_ascii_digit (take i bytes) (get_or bytes i 0 ∷ []) ∙ rw (so_far, digit) refl

pub passes_more : (test : ℕ → Bool) (bytes : List ℕ) (i : ℕ) → i < length bytes → list_all test (take i bytes) ≡ true → test (get_or bytes i 0) ≡ true → list_all test (take (i + 1) bytes) ≡ true
passes_more test bytes i lt so_far next =
    ap (list_all test) (take_more bytes i 0 lt) ∙ list_all-append test (take i bytes) (get_or bytes i 0 ∷ []) ∙ rw (so_far, next) refl
