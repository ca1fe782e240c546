-- Numbers of a script are what parse reads where the text is short, plain and without a leading zero.
use Rattle.std.proofs.Common.{◌≡◌, ◌≢◌, ◌⊎◌, inl, inr, ℕ, ◌<◌, ◌≤◌, ◌^◌, List, length, get_or, arith, sym, subst, ◌∙◌, ap}
use Rattle.std.specs.Prelude.{Result, Ok, true, false, ◌==◌}
use Rattle.std.specs.Fmt.{decimal}
use Rattle.std.specs.Str.Parse.{AllDigits, digits_value, ParsesUnsigned}
use Rattle.std.proofs.lemmas.Str.Parse.{IsNumeralModel, numerals_by_value, tells_digits, not_in_digits, parse_plain, parse_gives, digits_value_short}
use Rattle.std.proofs.lemmas.Fmt.{parse-decimal, digits_decimal, decimal_nonempty, length-decimal-le, first_decimal, decimal_digit, decimal_injective, decimal-digits_value}
use Rattle.std.proofs.lemmas.Result.{OkIff-at_ok}
use Rattle.std.proofs.lemmas.Bool.Decides.{eqb_tells}
use Rattle.std.specs.Prelude.{MatchOption, Option, Some, None}
use Rattle.std.proofs.Common.{Bor}
use Rattle.std.proofs.lemmas.Str.Pattern.{IsSplitOnceResult, split_after, split_parts}
use Rattle.script_lines.specs.Script.{IsNumber}
use Rattle.script_lines.specs.Commands.{IsTicket, IsStatus}

own : IsNumeralModel (AllDigits 10) (digits_value 10)
own = numerals_by_value (AllDigits 10) tells_digits

small : (n : ℕ) → n < 10 ^ 15 → n < 2 ^ 64
small n h = omega arith

pub number_some : (bs : List ℕ) (n : ℕ) → IsNumber bs n → 0 < length bs
number_some bs n h = subst (λ (l : List ℕ). 0 < length l) (sym h.text) (decimal_nonempty n (small n h.short))

pub number_short : (bs : List ℕ) (n : ℕ) → IsNumber bs n → length bs ≤ 15
number_short bs n h = subst (λ (l : List ℕ). length l ≤ 15) (sym h.text) (length-decimal-le 15 n (omega arith) h.short (small n h.short))

pub number_plain : (bs : List ℕ) (n : ℕ) → IsNumber bs n → get_or bs 0 0 ≢ 43
number_plain bs n h = not_in_digits own bs 43 (subst (AllDigits 10) (sym h.text) (digits_decimal own n (small n h.short))) (λ within. omega (arith, within.0)) 0 (number_some bs n h)

pub number_zero : (bs : List ℕ) (n : ℕ) → IsNumber bs n → get_or bs 0 0 ≡ 48 → length bs ≤ 1
number_zero bs n h zero_first = by_size (eqb_tells n 0) where
  by_size : ((n == 0) ≡ true) × (n ≡ 0) ⊎ ((n == 0) ≡ false) × (n ≢ 0) → length bs ≤ 1
  by_size (inl e) = subst (λ (l : List ℕ). length l ≤ 1) (sym (h.text ∙ ap decimal e.1 ∙ decimal_digit 0 (omega arith))) (omega arith)
  by_size (inr e) =
      let first : 48 < get_or (decimal n) 0 0 = first_decimal n (omega (arith, e.1)) (small n h.short) in
      let same : get_or (decimal n) 0 0 ≡ 48 = ap (λ (l : List ℕ). get_or l 0 0) (sym h.text) ∙ zero_first in
      absurd (omega (arith, first, same))

pub number_read : {E : Type 0} (bs : List ℕ) (n : ℕ) (r : Result ℕ E) → ParsesUnsigned 64 10 bs r → IsNumber bs n → r ≡ Ok n
number_read bs n r h is = parse-decimal 64 n bs r (small n is.short) (small n is.short) is.text h

pub reads_number : {E : Type 0} (bs : List ℕ) (n : ℕ) (r : Result ℕ E) → ParsesUnsigned 64 10 bs r → r ≡ Ok n → get_or bs 0 0 ≢ 43 → length bs ≤ 15 → (get_or bs 0 0 ≡ 48 → length bs ≡ 1) → IsNumber bs n
reads_number bs n r h ok plain short zeros =
    let read = OkIff-at_ok r (AllDigits 10 bs × (0 < length bs) × (digits_value 10 bs < 2 ^ 64)) (digits_value 10 bs) n (parse_plain own 64 bs r h plain) ok in
    record {
      text = sym (decimal-digits_value own bs read.0.0 read.0.1 zeros read.0.2) ∙ ap decimal (sym read.1);
      short = subst (λ (m : ℕ). m < 10 ^ 15) (sym read.1) (digits_value_short own bs 15 read.0.0 short);
    }

pub number_same : (bs : List ℕ) (m n : ℕ) → IsNumber bs m → IsNumber bs n → m ≡ n
number_same bs m n h k = decimal_injective m n (small m h.short) (small n k.short) (sym h.text ∙ k.text)

pub number_dotless : (bs : List ℕ) (n : ℕ) → IsNumber bs n → (i : ℕ) → i < length bs → get_or bs i 0 ≢ 46
number_dotless bs n h i within = not_in_digits own bs 46 (subst (AllDigits 10) (sym h.text) (digits_decimal own n (small n h.short))) (λ range. omega (arith, range.0)) i within

-- what split_once gives at the point of a ticket
pub ticket_parts : (w : List ℕ) (r : Option (Bor (List ℕ) × Bor (List ℕ))) → IsSplitOnceResult 46 w r → (e t : ℕ) → IsTicket w e t → MatchOption r ⊥ (λ x. IsNumber x.0.now e × IsNumber x.1.now t)
ticket_parts w None h e t is = split_after 46 w is.before is.after None h (omega arith) is.form (number_dotless is.before e is.epoch_is)
ticket_parts w (Some x) h e t is =
    let p = split_after 46 w is.before is.after (Some x) h (omega arith) is.form (number_dotless is.before e is.epoch_is) in
    (subst (λ (l : List ℕ). IsNumber l e) (sym p.0) is.epoch_is, subst (λ (l : List ℕ). IsNumber l t) (sym p.1) is.ticket_is)

pub ticket_joined : (w : List ℕ) (x : Bor (List ℕ) × Bor (List ℕ)) → IsSplitOnceResult 46 w (Some x) → (e t : ℕ) → IsNumber x.0.now e → IsNumber x.1.now t → IsTicket w e t
ticket_joined w x h e t a b = record { before = x.0.now; after = x.1.now; form = (split_parts 46 w (Some x) h (omega arith)).0; epoch_is = a; ticket_is = b }

-- three digits are read
pub status_read : {E : Type 0} (bs : List ℕ) (n : ℕ) (r : Result ℕ E) → ParsesUnsigned 16 10 bs r → IsStatus bs n → r ≡ Ok n
status_read bs n r h is =
    let short : digits_value 10 bs < 10 ^ 3 = digits_value_short own bs 3 is.digits (omega (arith, is.three)) in
    parse_gives own 16 bs r h is.digits (omega (arith, is.three)) (omega (arith, short)) ∙ ap Ok (sym is.value)
