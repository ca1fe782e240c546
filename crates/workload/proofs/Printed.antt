-- Numbers as they are printed.
use Rattle.std.proofs.Common.{◌≡◌, ℕ, ◌<◌, ◌^◌, List, Option, Some, None, MatchOption, refl, sym, ap, subst, ◌∙◌, arith}
use Rattle.std.specs.Prelude.{Bool, true, false, ◌&&◌, nat_lt, if◌then◌else◌}
use Rattle.std.specs.Fmt.{decimal}
use Rattle.std.specs.Str.{bytes_eq}
use Rattle.std.specs.Str.Parse.{AllDigits, digits_value}
use Rattle.std.proofs.lemmas.Fmt.{digits_value-decimal}
use Rattle.std.proofs.lemmas.Str.Parse.{IsNumeralModel, numerals_by_value, tells_digits}
use Rattle.std.proofs.lemmas.Bool.{and_parts, and_from, ltb-true, lt-ltb}
use Rattle.std.proofs.lemmas.Slice.Eq.{bytes_eq-Decides}
use Rattle.script_lines.specs.Script.{IsNumber}
use Rattle.workload.specs.Replying.{number_printed}

own : IsNumeralModel (AllDigits 10) (digits_value 10)
own = numerals_by_value (AllDigits 10) tells_digits

small : (n : ℕ) → n < 10 ^ 15 → n < 2 ^ 64
small n h = omega arith

abbrev is_printed : List ℕ → ℕ → Bool
is_printed text n = bytes_eq text (decimal n) && nat_lt n (10 ^ 15)

none_printed : (text : List ℕ) (n : ℕ) (t : Bool) → is_printed text n ≡ t → (IsNumber text n → ⊥) → None ≡ (if t then Some n else None)
none_printed text n false e none = refl
none_printed text n true e none =
    let parts = and_parts (bytes_eq text (decimal n)) (nat_lt n (10 ^ 15)) e in
    absurd (none (record { text = (bytes_eq-Decides text (decimal n)).0 parts.0; short = ltb-true n (10 ^ 15) parts.1 }))

some_printed : (text : List ℕ) (n m : ℕ) → IsNumber text n → m ≡ n → Some n ≡ (if is_printed text m then Some m else None)
some_printed text n m h is =
    let test : is_printed text n ≡ true = and_from (bytes_eq text (decimal n)) (nat_lt n (10 ^ 15)) ((bytes_eq-Decides text (decimal n)).1 h.text) (lt-ltb n (10 ^ 15) h.short) in
    subst (λ (k : ℕ). Some n ≡ (if is_printed text k then Some k else None)) (sym is) (sym (ap (λ (t : Bool). if t then Some n else None) test))

-- what is read as a number is the number that is printed so
pub printed_is : (r : Option ℕ) (text : List ℕ) → MatchOption r ((n : ℕ) → IsNumber text n → ⊥) (λ n. IsNumber text n) → r ≡ number_printed text
printed_is None text none = none_printed text (digits_value 10 text) (is_printed text (digits_value 10 text)) refl (none (digits_value 10 text))
printed_is (Some n) text h =
    some_printed text n (digits_value 10 text) h (ap (digits_value 10) h.text ∙ digits_value-decimal own n (small n h.short))
