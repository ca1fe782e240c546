-- Numbers of 1 to 15 digits.
use Rattle.std.proofs.Common.{◌≡◌, ℕ, ◌≤◌, Bool, true, false, List, [], ◌∷◌, Option, Some, None, MatchOption, length, refl, sym, ap, ◌∙◌, subst, ◌⊎◌, inl, inr, arith}
use Rattle.std.specs.Prelude.{◌&&◌, nat_le, if◌then◌else◌}
use Rattle.std.specs.List.{list_all}
use Rattle.std.specs.Str.Parse.{digits_value}
use Rattle.std.proofs.lemmas.Bool.{leb-true, le-leb, and_parts, and_from}
use Rattle.json_value.specs.declared.tree.Json.{Json, out-Json}
use Rattle.json_value.specs.declared.tree.Json.TheVariants as j
use Rattle.json_value.specs.Numbers.{is_digit, is_digit_1_9, AreDigits, IsInt, digits}
use Rattle.json_value.specs.Numbers as numbers
use Rattle.json_value.specs.Wholes.{IsWholeText, IsWholeNumber}
use Rattle.json_value.proofs.Cases.{out-number}
use Rattle.json_value.proofs.Digits.{int_digits, digits_int}
use Rattle.case_file.specs.Forms.{is_int, int_from, number_written, number_at, number_of}

all_digits : (bs : List ℕ) → AreDigits bs → list_all is_digit bs ≡ true
all_digits [] are = refl
all_digits (b ∷ bs) are = and_from (is_digit b) (list_all is_digit bs) are.0 (all_digits bs are.1)

are_digits : (bs : List ℕ) → list_all is_digit bs ≡ true → AreDigits bs
are_digits [] all = tt
are_digits (b ∷ bs) all = let h = and_parts (is_digit b) (list_all is_digit bs) all in (h.0, are_digits bs h.1)

int_is : (text : List ℕ) → IsInt text → is_int text ≡ true
int_is _ numbers.zero = refl
int_is _ (digits b [] is are) = (int_digits (b ∷ []) (digits b [] is are)).0
int_is _ (digits b (c ∷ cs) is are) = and_from (is_digit_1_9 b) (list_all is_digit (c ∷ cs)) is (all_digits (c ∷ cs) are)

is_int_of : (text : List ℕ) → is_int text ≡ true → IsInt text
is_int_of [] is = absurd cc
is_int_of (b ∷ []) is = digits_int (b ∷ []) (is, tt) (omega arith) (λ _. omega arith)
is_int_of (b ∷ (c ∷ cs)) is = let h = and_parts (is_digit_1_9 b) (list_all is_digit (c ∷ cs)) is in digits b (c ∷ cs) h.0 (are_digits (c ∷ cs) h.1)

by_test : (text : List ℕ) (t : Bool) → (is_int text && nat_le (length text) 15) ≡ t → ((n : ℕ) → IsWholeText text n → ⊥) → None ≡ (if t then Some (digits_value 10 text) else None)
by_test text false is none = refl
by_test text true is none = let h = and_parts (is_int text) (nat_le (length text) 15) is in absurd (none (digits_value 10 text) (is_int_of text h.0, leb-true (length text) 15 h.1, refl))

written_is : (r : Option ℕ) (text : List ℕ) → MatchOption r ((n : ℕ) → IsWholeNumber (j.Number text) n → ⊥) (IsWholeNumber (j.Number text)) → r ≡ number_written text
written_is None text h = by_test text (is_int text && nat_le (length text) 15) refl (λ n w. h n (text, refl, w))
written_is (Some n) text (t, e, (int, short, is)) =
    let same : text ≡ t = cc in
    let test : (is_int text && nat_le (length text) 15) ≡ true = rw same (and_from (is_int t) (nat_le (length t) 15) (int_is t int) (le-leb (length t) 15 short)) in
    rw (test, same, is) refl

pub number_is : (r : Option ℕ) (v : Json) (text : List ℕ) → v ≡ j.Number text → MatchOption r ((n : ℕ) → IsWholeNumber v n → ⊥) (IsWholeNumber v) → r ≡ number_of v
number_is r v text is h =
    written_is r text (subst (λ (w : Json). MatchOption r ((n : ℕ) → IsWholeNumber w n → ⊥) (IsWholeNumber w)) is h) ∙ sym (ap number_at (ap out-Json is ∙ out-number text))
