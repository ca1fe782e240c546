-- Seconds that digits write, one digit more.
use Rattle.std.proofs.Common.{◌≡◌, ℕ, ◌+◌, ◌-◌, ◌*◌, ◌<◌, ◌≤◌, min, Bool, true, false, List, length, take, get_or, sym, subst, ap, ◌∙◌, arith, unwrap_or, cond, not, ◌&&◌, ◌==◌, Option, None, Some, find, option_and_then}
use Rattle.std.specs.Prelude.{codes}
use Rattle.std.specs.Option.{option_map, option_or}
use Rattle.std.specs.List.{list_all, before_first}
use Rattle.std.specs.Char.{is_ascii_digit, digit_value}
use Rattle.std.specs.Str.Parse.{digits_value}
use Rattle.std.proofs.lemmas.Int.Digits.{digits_value_push}
use Rattle.std.proofs.lemmas.List.{take_more}
use Rattle.std.proofs.lemmas.Bool.Decides.{nat_tests}
use Rattle.cache_control.specs.Grammar.{Directive}
use Rattle.cache_control.specs.Reading.{directives_of, judged, verdict_of}
use Rattle.cache_terms.specs.declared.offers.Verdict.{Verdict}
use Rattle.cache_control.specs.Rules.{seconds_of, has_name, argument_seconds, trimmed, age_of, IsVerdict}
use Rattle.cache_control.proofs.Laws.{verdict_is}

digit_is : (c : ℕ) → 48 ≤ c → c ≤ 57 → digit_value c ≡ c - 48
digit_is c low high = grind (arith, nat_tests)

pub more_seconds : (text : List ℕ) (i s : ℕ) → i < length text → 48 ≤ get_or text i 0 → get_or text i 0 ≤ 57 → s ≡ min (digits_value 10 (take i text)) 2147483648 → min (s * 10 + (get_or text i 0 - 48)) 2147483648 ≡ min (digits_value 10 (take (i + 1) text)) 2147483648
more_seconds text i s within low high e =
    let pushed : digits_value 10 (take (i + 1) text) ≡ digits_value 10 (take i text) * 10 + digit_value (get_or text i 0) = ap (digits_value 10) (take_more text i 0 within) ∙ digits_value_push 10 (take i text) (get_or text i 0) in
    let digit : digit_value (get_or text i 0) ≡ get_or text i 0 - 48 = digit_is (get_or text i 0) low high in
    omega arith

-- a text's seconds are at most 2147483648
seconds_bound : (text : List ℕ) → unwrap_or (seconds_of text) 0 ≤ 2147483648
seconds_bound text = by (not (length text == 0) && list_all is_ascii_digit text)
  where
    by : (t : Bool) → unwrap_or (cond t (Some (min (digits_value 10 text) 2147483648)) None) 0 ≤ 2147483648
    by true = omega arith
    by false = omega arith

argument_bound : (directive : Directive) → argument_seconds directive ≤ 2147483648
argument_bound directive = by directive.argument
  where
    by : (o : Option (List ℕ)) → unwrap_or (option_and_then seconds_of o) 0 ≤ 2147483648
    by None = omega arith
    by (Some text) = seconds_bound text

pub age_bound : (age : Option (List ℕ)) → age_of age ≤ 2147483648
age_bound None = omega arith
age_bound (Some text) = seconds_bound (trimmed (before_first (λ byte. byte == 44) text))

lifetime_bound : (o : Option (List Directive)) (age : ℕ) → (judged o age).lifetime ≤ 2147483648
lifetime_bound None age = omega arith
lifetime_bound (Some ds) age = by (find (has_name (codes "s-maxage")) ds) (find (has_name (codes "max-age")) ds)
  where
    by : (s m : Option Directive) → unwrap_or (option_or (option_map argument_seconds s) (option_map argument_seconds m)) 0 ≤ 2147483648
    by None None = omega arith
    by None (Some d) = argument_bound d
    by (Some d) m = argument_bound d

pub verdict_bound : (cache_control age : Option (List ℕ)) → (verdict_of cache_control age).lifetime ≤ 2147483648
verdict_bound None age = omega arith
verdict_bound (Some text) age = lifetime_bound (directives_of text) (age_of age)

judged_age : (o : Option (List Directive)) (age : ℕ) → age ≤ 2147483648 → (judged o age).age ≤ 2147483648
judged_age None age small = small
judged_age (Some ds) age small = small

pub verdict_age_bound : (cache_control age : Option (List ℕ)) → (verdict_of cache_control age).age ≤ 2147483648
verdict_age_bound None age = age_bound age
verdict_age_bound (Some text) age = judged_age (directives_of text) (age_of age) (age_bound age)

-- lifetime and age are in their ranges
pub verdict_in_range : (cache_control age : Option (List ℕ)) (v : Verdict) → IsVerdict cache_control age v → (v.lifetime ≤ 2147483648) × (v.age ≤ 2147483648)
verdict_in_range cache_control age v h =
    let same = sym (verdict_is cache_control age v h) in
    (subst (λ (w : Verdict). w.lifetime ≤ 2147483648) same (verdict_bound cache_control age), subst (λ (w : Verdict). w.age ≤ 2147483648) same (verdict_age_bound cache_control age))
