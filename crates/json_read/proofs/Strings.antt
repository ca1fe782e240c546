-- Characters, escapes and whole strings.
use Rattle.std.proofs.Common.{◌≡◌, ◌≢◌, ℕ, suc, ◌+◌, ◌-◌, ◌<◌, ◌≤◌, true, false, List, [], ◌∷◌, ◌++◌, length, take, drop, get_or, add-one, Option, Some, None, Result, Ok, Err, refl, sym, ap, subst, ◌∙◌, arith, inl, inr}
use Rattle.std.specs.Prelude.{IsUtf8, encode_utf8, nat_le, ◌==◌, ◌||◌, ◌&&◌}
use Rattle.std.proofs.lemmas.List.{get_or-drop, length-drop}
use Rattle.std.proofs.Math.Seq.{take-suc}
use Rattle.std.proofs.lemmas.Str.{encode_ascii}
use Rattle.std.proofs.lemmas.Bool.{cond-true, cond-false, and_from, eq-eqb, ne_eqb, le-leb}
use Rattle.std.proofs.lemmas.Bool.Decides.{nat_tests}
use Rattle.json_value.specs.declared.fault.JsonFault.{JsonFault}
use Rattle.json_value.specs.declared.fault.JsonFault.TheVariants as faults
use Rattle.json_value.specs.Strings.{within, is_plain, is_tail, short, hex_digit, is_high, is_low, join, four_digits}
use Rattle.json_machine.specs.declared.begun.Tail.{Tail}
use Rattle.json_machine.specs.declared.begun.Tail.TheVariants as tails
use Rattle.json_machine.specs.Refusal.{Refusal}
use Rattle.json_machine.specs.Refusal as e
use Rattle.json_machine.specs.Part.{Part}
use Rattle.json_machine.specs.Part as p
use Rattle.json_machine.specs.Quad.{Quad}
use Rattle.json_machine.specs.Quad as q
use Rattle.json_machine.specs.Grown.{Grown}
use Rattle.json_machine.specs.Grown as g
use Rattle.json_machine.specs.Progress as s
use Rattle.json_machine.specs.Left.{TextLeft}
use Rattle.json_machine.specs.Scan.{Scanned, Unescaped, none, one, lead, scan, plain_scan, short_by, escape_scan, unit_scan, grow, hex_by, hex_grown, hex_scan, may_be_low, pair_scan, low_grown, low_by, low_scan, wide_next, wide_scan, tail_low, tail_high, slash_scan, letter_scan}
use Rattle.json_machine.specs.Onward.{Reading, Closed, reading, reading_by, text_from, cut}
use Rattle.json_read.specs.Reading.{Fails, ReadsRun, ReadsWide, ReadsTail, ReadsEscape, ReadsDigit, ReadsUnit, ReadsLow, ReadsByte, ReadsPair, ReadsText}
use Rattle.json_machine.proofs.TextsGo.{digit_steps}
use Rattle.json_machine.proofs.Utf8.{plain_holds, more_holds, done_holds, digit_small, short_ascii}
use Rattle.json_machine.proofs.PlainRuns.{lead_scans, wide_scans, all_unescaped, two_begun, three_begun, four_begun}
use Rattle.json_machine.proofs.Steps.{here, cut_none, cut_one, cut_join, scans, scan_done, scan_fails, scan_ends, unescaped_on}

pub fails_at : (x y : Reading) (fault : JsonFault) → x ≡ y → Fails y fault → Fails x fault
fails_at x y fault is h = subst (λ (r : Reading). Fails r fault) (sym is) h

-- ---- characters of several bytes

pub tail_ended : (bytes : List ℕ) (at place low high : ℕ) → length bytes ≤ at → ReadsTail bytes at place low high (Err faults.Ended)
tail_ended bytes at place low high le tail text _ _ = fails_at _ _ _ (scan_ends bytes at (p.Wide place tail) text le) refl

tail_scan_bad : (at place : ℕ) (tail : Tail) (text : List ℕ) (b : ℕ) → within (tail_low tail) (tail_high tail) b ≡ false → scan false at (p.Wide place tail) text b ≡ Err (e.Malformed place)
unfolding scan wide_scan
tail_scan_bad at place tail text b is = cond-false (within (tail_low tail) (tail_high tail) b) _ _ is

pub tail_bad : (bytes : List ℕ) (at place low high : ℕ) → at < length bytes → within low high (get_or bytes at 0) ≡ false → ReadsTail bytes at place low high (Err (faults.Syntax place))
tail_bad bytes at place low high lt is tail text lows highs =
    let bad : within (tail_low tail) (tail_high tail) (get_or bytes at 0) ≡ false = ap (λ (l : ℕ). within l (tail_high tail) (get_or bytes at 0)) lows ∙ (ap (λ (h : ℕ). within low h (get_or bytes at 0)) highs ∙ is) in
    fails_at _ _ _ (scan_fails bytes at (get_or bytes at 0) (p.Wide place tail) text (e.Malformed place) lt refl (tail_scan_bad at place tail text (get_or bytes at 0) bad)) refl

lead_bad : (at : ℕ) (text : List ℕ) (b : ℕ) → is_plain b ≡ false → (b == 34 || b == 92) ≡ false → lead b ≡ None → scan false at p.Plain text b ≡ Err e.Syntax
unfolding scan plain_scan
lead_bad at text b plain edge is = grind (arith, nat_tests)

pub wide_bad : (bytes : List ℕ) (at : ℕ) → at < length bytes → is_plain (get_or bytes at 0) ≡ false → (get_or bytes at 0 == 34 || get_or bytes at 0 == 92) ≡ false → lead (get_or bytes at 0) ≡ None → ReadsWide bytes at (Err (faults.Syntax at))
wide_bad bytes at lt plain edge is text = fails_at _ _ _ (scan_fails bytes at (get_or bytes at 0) p.Plain text e.Syntax lt refl (lead_bad at text (get_or bytes at 0) plain edge is)) refl

-- a byte and so many more
cut_from : (bytes : List ℕ) (at n : ℕ) → at < length bytes → cut bytes at (at + suc n) ≡ get_or bytes at 0 ∷ take n (drop (at + 1) bytes)
cut_from bytes at n lt =
    ap (λ (k : ℕ). take k (drop at bytes)) (let long : at + suc n - at ≡ suc n = omega arith in long) ∙ ap (λ (w : List ℕ). take (suc n) w) (here bytes at lt)

later : (bytes : List ℕ) (at n m : ℕ) → m ≡ at + 1 + n → get_or (drop (at + 1) bytes) n 0 ≡ get_or bytes m 0
later bytes at n m is = get_or-drop (at + 1) bytes n 0 ∙ ap (λ (k : ℕ). get_or bytes k 0) (sym is)

first_tail : (bytes : List ℕ) (at : ℕ) (tail : Tail) (text : List ℕ) → at < length bytes → lead (get_or bytes at 0) ≡ Some tail → text_from bytes at p.Plain text ≡ text_from bytes (at + 1) (p.Wide at tail) (text ++ (get_or bytes at 0 ∷ []))
first_tail bytes at tail text lt is = scans bytes at (get_or bytes at 0) p.Plain (p.Wide at tail) text _ lt refl (lead_scans at text (get_or bytes at 0) tail is)

next_tail : (bytes : List ℕ) (at place : ℕ) (tail : Tail) (text : List ℕ) → at < length bytes → within (tail_low tail) (tail_high tail) (get_or bytes at 0) ≡ true → text_from bytes at (p.Wide place tail) text ≡ text_from bytes (at + 1) (wide_next place tail) (text ++ (get_or bytes at 0 ∷ []))
next_tail bytes at place tail text lt is = scans bytes at (get_or bytes at 0) (p.Wide place tail) (wide_next place tail) text _ lt refl (wide_scans at place tail text (get_or bytes at 0) is)

later_tail : (bytes : List ℕ) (at next place : ℕ) (tail : Tail) (text : List ℕ) → at < length bytes → within (tail_low tail) (tail_high tail) (get_or bytes at 0) ≡ true → next ≡ at + 1 → text_from bytes at (p.Wide place tail) text ≡ text_from bytes next (wide_next place tail) (text ++ (get_or bytes at 0 ∷ []))
later_tail bytes at next place tail text lt is there = next_tail bytes at place tail text lt is ∙ ap (λ (k : ℕ). text_from bytes k (wide_next place tail) (text ++ (get_or bytes at 0 ∷ []))) (sym there)

second_tail : (bytes : List ℕ) (at second : ℕ) (tail : Tail) (text : List ℕ) → at < length bytes → lead (get_or bytes at 0) ≡ Some tail → at + 1 < length bytes → within (tail_low tail) (tail_high tail) (get_or bytes (at + 1) 0) ≡ true → second ≡ at + 1 + 1
    → text_from bytes at p.Plain text ≡ text_from bytes second (wide_next at tail) (text ++ (get_or bytes at 0 ∷ []) ++ (get_or bytes (at + 1) 0 ∷ []))
second_tail bytes at second tail text lt is lt' inside there = first_tail bytes at tail text lt is ∙ later_tail bytes (at + 1) second at tail (text ++ (get_or bytes at 0 ∷ [])) lt' inside there

pub two_end : (bytes : List ℕ) (at low high : ℕ) (r : Result ℕ JsonFault) → at < length bytes → lead (get_or bytes at 0) ≡ Some (tails.One low high) → ReadsTail bytes (at + 1) at low high r → ReadsWide bytes at r
two_end bytes at low high (Ok end) lt is (there, second, inside) =
    let same : end ≡ at + 2 = omega (arith, there) in (
      omega arith,
      omega arith,
      subst (λ (k : ℕ). Unescaped (cut bytes at k)) (sym same) (subst Unescaped (sym (cut_from bytes at 1 lt))
          (two_begun (get_or bytes at 0) low high (drop (at + 1) bytes) (omega (arith, length-drop (at + 1) bytes)) is (ap (within low high) (later bytes at 0 (at + 1) (omega arith)) ∙ inside))),
    )
two_end bytes at low high (Err fault) lt is fails = λ text. fails_at _ _ _ (first_tail bytes at (tails.One low high) text lt is) (fails (tails.One low high) _ refl refl)

pub second_fails : (bytes : List ℕ) (at low high : ℕ) (tail : Tail) (fault : JsonFault) → at < length bytes → lead (get_or bytes at 0) ≡ Some tail → tail_low tail ≡ low → tail_high tail ≡ high → ReadsTail bytes (at + 1) at low high (Err fault) → ReadsWide bytes at (Err fault)
second_fails bytes at low high tail fault lt is lows highs fails text = fails_at _ _ _ (first_tail bytes at tail text lt is) (fails tail _ lows highs)

pub three_end : (bytes : List ℕ) (at low high second : ℕ) (r : Result ℕ JsonFault) → at < length bytes → lead (get_or bytes at 0) ≡ Some (tails.Two low high) → ReadsTail bytes (at + 1) at low high (Ok second) → ReadsTail bytes second at 128 191 r → ReadsWide bytes at r
three_end bytes at low high second (Ok end) lt is (there, lt', inside) (there', lt'', inside') =
    let mid : second ≡ at + 2 = omega (arith, there) in
    let same : end ≡ at + 3 = omega (arith, there', mid) in (
      omega arith,
      omega arith,
      subst (λ (k : ℕ). Unescaped (cut bytes at k)) (sym same) (subst Unescaped (sym (cut_from bytes at 2 lt))
          (three_begun (get_or bytes at 0) low high (drop (at + 1) bytes) (omega (arith, length-drop (at + 1) bytes)) is (ap (within low high) (later bytes at 0 (at + 1) (omega arith)) ∙ inside) (ap is_tail (later bytes at 1 second (omega arith)) ∙ inside'))),
    )
three_end bytes at low high second (Err fault) lt is (there, lt', inside) fails = λ text.
    fails_at _ _ fault (second_tail bytes at second (tails.Two low high) text lt is lt' inside there) (fails (tails.One 128 191) (text ++ (get_or bytes at 0 ∷ []) ++ (get_or bytes (at + 1) 0 ∷ [])) refl refl)

pub third_fails : (bytes : List ℕ) (at low high second : ℕ) (fault : JsonFault) → at < length bytes → lead (get_or bytes at 0) ≡ Some (tails.Three low high) → ReadsTail bytes (at + 1) at low high (Ok second) → ReadsTail bytes second at 128 191 (Err fault) → ReadsWide bytes at (Err fault)
third_fails bytes at low high second fault lt is (there, lt', inside) fails text =
    fails_at _ _ fault (second_tail bytes at second (tails.Three low high) text lt is lt' inside there) (fails (tails.Two 128 191) (text ++ (get_or bytes at 0 ∷ []) ++ (get_or bytes (at + 1) 0 ∷ [])) refl refl)

pub four_end : (bytes : List ℕ) (at low high second third : ℕ) (r : Result ℕ JsonFault) → at < length bytes → lead (get_or bytes at 0) ≡ Some (tails.Three low high) → ReadsTail bytes (at + 1) at low high (Ok second) → ReadsTail bytes second at 128 191 (Ok third)
    → ReadsTail bytes third at 128 191 r → ReadsWide bytes at r
four_end bytes at low high second third (Ok end) lt is (there, lt', inside) (there', lt'', inside') (there'', lt''', inside'') =
    let mid : second ≡ at + 2 = omega (arith, there) in
    let far : third ≡ at + 3 = omega (arith, there', mid) in
    let same : end ≡ at + 4 = omega (arith, there'', far) in (
      omega arith,
      omega arith,
      subst (λ (k : ℕ). Unescaped (cut bytes at k)) (sym same) (subst Unescaped (sym (cut_from bytes at 3 lt))
          (four_begun (get_or bytes at 0) low high (drop (at + 1) bytes) (omega (arith, length-drop (at + 1) bytes)) is (ap (within low high) (later bytes at 0 (at + 1) (omega arith)) ∙ inside) (ap is_tail (later bytes at 1 second (omega arith)) ∙ inside')
          (ap is_tail (later bytes at 2 third (omega arith)) ∙ inside''))),
    )
four_end bytes at low high second third (Err fault) lt is (there, lt', inside) (there', lt'', inside') fails = λ text.
    let before : List ℕ = text ++ (get_or bytes at 0 ∷ []) ++ (get_or bytes (at + 1) 0 ∷ []) in
    fails_at _ _ fault (second_tail bytes at second (tails.Three low high) text lt is lt' inside there ∙ later_tail bytes second third at (tails.Two 128 191) before lt'' inside' there') (fails (tails.One 128 191) (before ++ (get_or bytes second 0 ∷ [])) refl refl)

-- ---- runs of characters that stand for themselves

pub run_begun : (bytes : List ℕ) (at : ℕ) → Unescaped (cut bytes at at)
run_begun bytes at = subst Unescaped (sym (cut_none bytes at)) none

pub run_joined : (bytes : List ℕ) (at i j : ℕ) → at ≤ i → i ≤ j → Unescaped (cut bytes at i) → Unescaped (cut bytes i j) → Unescaped (cut bytes at j)
run_joined bytes at i j le after so_far more = subst Unescaped (sym (cut_join bytes at i j le after)) (all_unescaped (cut bytes at i) (cut bytes i j) so_far more)

pub run_more : (bytes : List ℕ) (at i : ℕ) → at ≤ i → i < length bytes → is_plain (get_or bytes i 0) ≡ true → Unescaped (cut bytes at i) → Unescaped (cut bytes at (i + 1))
run_more bytes at i le lt plain so_far = run_joined bytes at i (i + 1) le (omega arith) so_far (subst Unescaped (sym (cut_one bytes i lt)) (one (get_or bytes i 0) [] plain none))

pub plain_more : (bytes : List ℕ) (i : ℕ) → i < length bytes → is_plain (get_or bytes i 0) ≡ true → Unescaped (take i bytes) → Unescaped (take (i + 1) bytes)
plain_more bytes i lt plain so_far = rw add-one (subst Unescaped (sym (take-suc bytes i 0 lt)) (all_unescaped (take i bytes) (get_or bytes i 0 ∷ []) so_far (one (get_or bytes i 0) [] plain none)))

pub run_ended : (bytes : List ℕ) (at i : ℕ) → at ≤ i → i ≤ length bytes → length bytes ≤ i → Unescaped (cut bytes at i) → ReadsRun bytes at (Err faults.Ended)
run_ended bytes at i le within all so_far text = fails_at _ _ _ (unescaped_on bytes at i text le within so_far ∙ scan_ends bytes i p.Plain _ all) refl

pub run_fails : (bytes : List ℕ) (at i : ℕ) (fault : JsonFault) → at ≤ i → i ≤ length bytes → Unescaped (cut bytes at i) → ReadsWide bytes i (Err fault) → ReadsRun bytes at (Err fault)
run_fails bytes at i fault le within so_far fails text = fails_at _ _ _ (unescaped_on bytes at i text le within so_far) (fails _)

-- ---- hexadecimal digits

pub digit_ended : (bytes : List ℕ) (at : ℕ) → length bytes ≤ at → ReadsDigit bytes at (Err faults.Ended)
digit_ended bytes at le place quad text = fails_at _ _ _ (scan_ends bytes at (p.Hex place quad) text le) refl

hex_scan_bad : (at place : ℕ) (quad : Quad) (text : List ℕ) (b : ℕ) → hex_digit b ≡ None → scan false at (p.Hex place quad) text b ≡ Err e.Syntax
unfolding scan hex_scan
hex_scan_bad at place quad text b is = ap (hex_by place quad text) is

pub digit_bad : (bytes : List ℕ) (at : ℕ) → at < length bytes → hex_digit (get_or bytes at 0) ≡ None → ReadsDigit bytes at (Err (faults.Syntax at))
digit_bad bytes at lt is place quad text = fails_at _ _ _ (scan_fails bytes at (get_or bytes at 0) (p.Hex place quad) text e.Syntax lt refl (hex_scan_bad at place quad text (get_or bytes at 0) is)) refl

digit_scans : (at place : ℕ) (quad : Quad) (text : List ℕ) (b d : ℕ) → hex_digit b ≡ Some d → scan false at (p.Hex place quad) text b ≡ hex_grown place text (grow quad d)
unfolding scan
digit_scans at place quad text b d is = digit_steps false place quad text b d is

hex_on : (bytes : List ℕ) (at place : ℕ) (quad more : Quad) (text : List ℕ) (d : ℕ) → ReadsDigit bytes at (Ok d) → grow quad d ≡ g.Part more → text_from bytes at (p.Hex place quad) text ≡ text_from bytes (at + 1) (p.Hex place more) text
hex_on bytes at place quad more text d (lt, is) grown = scans bytes at (get_or bytes at 0) (p.Hex place quad) (p.Hex place more) text text lt refl (digit_scans at place quad text (get_or bytes at 0) d is ∙ ap (hex_grown place text) grown)

pub first_digit_fails : (bytes : List ℕ) (at : ℕ) (fault : JsonFault) → ReadsDigit bytes at (Err fault) → ReadsUnit bytes at (Err fault)
first_digit_fails bytes at fault fails place text = fails place q.Nothing text

pub second_digit_fails : (bytes : List ℕ) (at a : ℕ) (fault : JsonFault) → ReadsDigit bytes at (Ok a) → ReadsDigit bytes (at + 1) (Err fault) → ReadsUnit bytes at (Err fault)
second_digit_fails bytes at a fault first fails place text = fails_at _ _ _ (hex_on bytes at place q.Nothing (q.One a) text a first refl) (fails place (q.One a) text)

two_on : (bytes : List ℕ) (at a b place : ℕ) (text : List ℕ) → ReadsDigit bytes at (Ok a) → ReadsDigit bytes (at + 1) (Ok b) → text_from bytes at (p.Hex place q.Nothing) text ≡ text_from bytes (at + 2) (p.Hex place (q.Two a b)) text
two_on bytes at a b place text first second =
    hex_on bytes at place q.Nothing (q.One a) text a first refl
    ∙ (hex_on bytes (at + 1) place (q.One a) (q.Two a b) text b second refl ∙ ap (λ (k : ℕ). text_from bytes k (p.Hex place (q.Two a b)) text) (let k : at + 1 + 1 ≡ at + 2 = omega arith in k))

pub third_digit_fails : (bytes : List ℕ) (at a b : ℕ) (fault : JsonFault) → ReadsDigit bytes at (Ok a) → ReadsDigit bytes (at + 1) (Ok b) → ReadsDigit bytes (at + 2) (Err fault) → ReadsUnit bytes at (Err fault)
third_digit_fails bytes at a b fault first second fails place text = fails_at _ _ _ (two_on bytes at a b place text first second) (fails place (q.Two a b) text)

three_on : (bytes : List ℕ) (at a b c place : ℕ) (text : List ℕ) → ReadsDigit bytes at (Ok a) → ReadsDigit bytes (at + 1) (Ok b) → ReadsDigit bytes (at + 2) (Ok c) → text_from bytes at (p.Hex place q.Nothing) text ≡ text_from bytes (at + 3) (p.Hex place (q.Three a b c)) text
three_on bytes at a b c place text first second third =
    two_on bytes at a b place text first second
    ∙ (hex_on bytes (at + 2) place (q.Two a b) (q.Three a b c) text c third refl ∙ ap (λ (k : ℕ). text_from bytes k (p.Hex place (q.Three a b c)) text) (let k : at + 2 + 1 ≡ at + 3 = omega arith in k))

pub fourth_digit_fails : (bytes : List ℕ) (at a b c : ℕ) (fault : JsonFault) → ReadsDigit bytes at (Ok a) → ReadsDigit bytes (at + 1) (Ok b) → ReadsDigit bytes (at + 2) (Ok c) → ReadsDigit bytes (at + 3) (Err fault) → ReadsUnit bytes at (Err fault)
fourth_digit_fails bytes at a b c fault first second third fails place text = fails_at _ _ _ (three_on bytes at a b c place text first second third) (fails place (q.Three a b c) text)

scanned : (bytes : List ℕ) (at : ℕ) (part : Part) (text : List ℕ) (o : Scanned) → at < length bytes → scan false at part text (get_or bytes at 0) ≡ o → text_from bytes at part text ≡ reading_by o at (drop (at + 1) bytes) (text_from bytes (at + 1))
unfolding text_from reading
scanned bytes at part text o lt is = rw (here bytes at lt, is) refl

pub unit_read : (bytes : List ℕ) (at a b c d unit : ℕ) → ReadsDigit bytes at (Ok a) → ReadsDigit bytes (at + 1) (Ok b) → ReadsDigit bytes (at + 2) (Ok c) → ReadsDigit bytes (at + 3) (Ok d) → unit ≡ four_digits a b c d → ReadsUnit bytes at (Ok unit)
unit_read bytes at a b c d unit first second third fourth is =
    let ha = digit_small (get_or bytes at 0) a first.1 in
    let hb = digit_small (get_or bytes (at + 1) 0) b second.1 in
    let hc = digit_small (get_or bytes (at + 2) 0) c third.1 in
    let hd = digit_small (get_or bytes (at + 3) 0) d fourth.1 in (
      omega (arith, fourth.0),
      omega (arith, is),
      λ place text. three_on bytes at a b c place text first second third
          ∙ (scanned bytes (at + 3) (p.Hex place (q.Three a b c)) text (unit_scan place text unit) fourth.0 (digit_scans (at + 3) place (q.Three a b c) text (get_or bytes (at + 3) 0) d fourth.1 ∙ ap (unit_scan place text) (sym is))
          ∙ ap (λ (k : ℕ). reading_by (unit_scan place text unit) (at + 3) (drop k bytes) (text_from bytes k)) (let k : at + 3 + 1 ≡ at + 4 = omega arith in k)),
    )

-- ---- pairs

-- a refusal that is the pair's
refused_as : (bytes : List ℕ) (at place : ℕ) (part : Part) (text : List ℕ) (fault : JsonFault) → at < length bytes → fault ≡ faults.Surrogate place → scan false at part text (get_or bytes at 0) ≡ Err (e.Surrogate place) → Fails (text_from bytes at part text) fault
refused_as bytes at place part text fault lt is failed = fails_at _ _ _ (scan_fails bytes at (get_or bytes at 0) part text (e.Surrogate place) lt refl failed) is

ended_as : (bytes : List ℕ) (at : ℕ) (part : Part) (text : List ℕ) (fault : JsonFault) → length bytes ≤ at → fault ≡ faults.Ended → Fails (text_from bytes at part text) fault
ended_as bytes at part text fault le is = fails_at _ _ _ (scan_ends bytes at part text le) is

slash_on : (bytes : List ℕ) (at place high : ℕ) (text : List ℕ) → at < length bytes → get_or bytes at 0 ≡ 92 → text_from bytes at (p.Slash place high) text ≡ text_from bytes (at + 1) (p.Letter place high) text
unfolding scan slash_scan
slash_on bytes at place high text lt is = scans bytes at 92 (p.Slash place high) (p.Letter place high) text text lt is refl

letter_on : (bytes : List ℕ) (at place high : ℕ) (text : List ℕ) → at < length bytes → get_or bytes at 0 ≡ 117 → text_from bytes at (p.Letter place high) text ≡ text_from bytes (at + 1) (p.Low place high q.Nothing) text
unfolding scan letter_scan
letter_on bytes at place high text lt is = scans bytes at 117 (p.Letter place high) (p.Low place high q.Nothing) text text lt is refl

slash_bad : (at place high : ℕ) (text : List ℕ) (b : ℕ) → b ≢ 92 → scan false at (p.Slash place high) text b ≡ Err (e.Surrogate place)
unfolding scan slash_scan
slash_bad at place high text b not = cond-false (b == 92) _ _ (ne_eqb b 92 not)

letter_bad : (at place high : ℕ) (text : List ℕ) (b : ℕ) → b ≢ 117 → scan false at (p.Letter place high) text b ≡ Err (e.Surrogate place)
unfolding scan letter_scan
letter_bad at place high text b not = cond-false (b == 117) _ _ (ne_eqb b 117 not)

pub slash_fails : (bytes : List ℕ) (at place : ℕ) (fault : JsonFault) → ReadsByte bytes at place 92 (Err fault) → ReadsPair bytes at place (Err fault)
slash_fails bytes at place fault (inl (le, is)) high text = ended_as bytes at (p.Slash place high) text fault le is
slash_fails bytes at place fault (inr (lt, is, not)) high text = refused_as bytes at place (p.Slash place high) text fault lt is (slash_bad at place high text (get_or bytes at 0) not)

pub letter_fails : (bytes : List ℕ) (at place : ℕ) (fault : JsonFault) (u : Unit {0}) → ReadsByte bytes at place 92 (Ok u) → ReadsByte bytes (at + 1) place 117 (Err fault) → ReadsPair bytes at place (Err fault)
letter_fails bytes at place fault u (lt, is) fails high text = fails_at _ _ _ (slash_on bytes at place high text lt is) (by_case fails)
  where
    by_case : ReadsByte bytes (at + 1) place 117 (Err fault) → Fails (text_from bytes (at + 1) (p.Letter place high) text) fault
    by_case (inl (le, is)) = ended_as bytes (at + 1) (p.Letter place high) text fault le is
    by_case (inr (lt, is, not)) = refused_as bytes (at + 1) place (p.Letter place high) text fault lt is (letter_bad (at + 1) place high text (get_or bytes (at + 1) 0) not)

-- the escape is begun
abbrev pub Begun : List ℕ → ℕ → ℕ → Type 0
Begun bytes at place = (high : ℕ) (text : List ℕ) → text_from bytes at (p.Slash place high) text ≡ text_from bytes (at + 2) (p.Low place high q.Nothing) text

low_begun : (bytes : List ℕ) (at place : ℕ) (u v : Unit {0}) → ReadsByte bytes at place 92 (Ok u) → ReadsByte bytes (at + 1) place 117 (Ok v) → Begun bytes at place
low_begun bytes at place u v (lt, is) (lt', is') high text =
    slash_on bytes at place high text lt is ∙ (letter_on bytes (at + 1) place high text lt' is' ∙ ap (λ (k : ℕ). text_from bytes k (p.Low place high q.Nothing) text) (let k : at + 1 + 1 ≡ at + 2 = omega arith in k))

low_scans : (at place high : ℕ) (quad : Quad) (text : List ℕ) (b d : ℕ) → hex_digit b ≡ Some d → scan false at (p.Low place high quad) text b ≡ low_grown place high text (grow quad d)
unfolding scan low_scan
low_scans at place high quad text b d is = ap (low_by place high quad text) is

low_no_digit : (at place high : ℕ) (quad : Quad) (text : List ℕ) (b : ℕ) → hex_digit b ≡ None → scan false at (p.Low place high quad) text b ≡ Err (e.Surrogate place)
unfolding scan low_scan
low_no_digit at place high quad text b is = ap (low_by place high quad text) is

low_on : (bytes : List ℕ) (at place high : ℕ) (quad more : Quad) (text : List ℕ) (low top d : ℕ) → ReadsLow bytes at place low top (Ok d) → grow quad d ≡ g.Part more → may_be_low more ≡ true → text_from bytes at (p.Low place high quad) text ≡ text_from bytes (at + 1) (p.Low place high more) text
low_on bytes at place high quad more text low top d (lt, is, _, _) grown may =
    scans bytes at (get_or bytes at 0) (p.Low place high quad) (p.Low place high more) text text lt refl (low_scans at place high quad text (get_or bytes at 0) d is ∙ (ap (low_grown place high text) grown ∙ cond-true (may_be_low more) _ _ may))

low_fails : (bytes : List ℕ) (at place high : ℕ) (quad : Quad) (text : List ℕ) (low top : ℕ) (fault : JsonFault) → ((d : ℕ) → d ≤ 15 → within low top d ≡ false → low_grown place high text (grow quad d) ≡ Err (e.Surrogate place))
    → ReadsLow bytes at place low top (Err fault) → Fails (text_from bytes at (p.Low place high quad) text) fault
low_fails bytes at place high quad text low top fault rejects (inl (le, is)) = ended_as bytes at (p.Low place high quad) text fault le is
low_fails bytes at place high quad text low top fault rejects (inr (lt, is, outside)) = refused_as bytes at place (p.Low place high quad) text fault lt is (by_digit (hex_digit (get_or bytes at 0)) refl)
  where
    by_digit : (o : Option ℕ) → hex_digit (get_or bytes at 0) ≡ o → scan false at (p.Low place high quad) text (get_or bytes at 0) ≡ Err (e.Surrogate place)
    by_digit None missing = low_no_digit at place high quad text (get_or bytes at 0) missing
    by_digit (Some d) found = low_scans at place high quad text (get_or bytes at 0) d found ∙ rejects d (digit_small (get_or bytes at 0) d found) (outside d found)

-- the digits of a low half
first_low : (bytes : List ℕ) (at place high a : ℕ) (text : List ℕ) → ReadsLow bytes at place 13 13 (Ok a) → text_from bytes at (p.Low place high q.Nothing) text ≡ text_from bytes (at + 1) (p.Low place high (q.One a)) text
first_low bytes at place high a text low = low_on bytes at place high q.Nothing (q.One a) text 13 13 a low refl (eq-eqb a 13 (let is : a ≡ 13 = omega (arith, low.2, low.3) in is))

two_may : (a b : ℕ) → 13 ≤ a → a ≤ 13 → 12 ≤ b → b ≤ 15 → may_be_low (q.Two a b) ≡ true
two_may a b la ha lb hb = grind (arith, nat_tests)

three_may : (a b c : ℕ) → 13 ≤ a → a ≤ 13 → 12 ≤ b → b ≤ 15 → c ≤ 15 → may_be_low (q.Three a b c) ≡ true
three_may a b c la ha lb hb hc = grind (arith, nat_tests)

after_one : (bytes : List ℕ) (at place a : ℕ) → Begun bytes at place → ReadsLow bytes (at + 2) place 13 13 (Ok a) → (high : ℕ) (text : List ℕ) → text_from bytes at (p.Slash place high) text ≡ text_from bytes (at + 3) (p.Low place high (q.One a)) text
after_one bytes at place a begun low1 high text =
    begun high text ∙ (first_low bytes (at + 2) place high a text low1 ∙ ap (λ (k : ℕ). text_from bytes k (p.Low place high (q.One a)) text) (let k : at + 2 + 1 ≡ at + 3 = omega arith in k))

after_two : (bytes : List ℕ) (at place a b : ℕ) → Begun bytes at place → ReadsLow bytes (at + 2) place 13 13 (Ok a) → ReadsLow bytes (at + 3) place 12 15 (Ok b)
    → (high : ℕ) (text : List ℕ) → text_from bytes at (p.Slash place high) text ≡ text_from bytes (at + 4) (p.Low place high (q.Two a b)) text
after_two bytes at place a b begun low1 low2 high text =
    after_one bytes at place a begun low1 high text
    ∙ (low_on bytes (at + 3) place high (q.One a) (q.Two a b) text 12 15 b low2 refl (two_may a b low1.2 low1.3 low2.2 low2.3) ∙ ap (λ (k : ℕ). text_from bytes k (p.Low place high (q.Two a b)) text) (let k : at + 3 + 1 ≡ at + 4 = omega arith in k))

after_three : (bytes : List ℕ) (at place a b c : ℕ) → Begun bytes at place → ReadsLow bytes (at + 2) place 13 13 (Ok a) → ReadsLow bytes (at + 3) place 12 15 (Ok b) → ReadsLow bytes (at + 4) place 0 15 (Ok c)
    → (high : ℕ) (text : List ℕ) → text_from bytes at (p.Slash place high) text ≡ text_from bytes (at + 5) (p.Low place high (q.Three a b c)) text
after_three bytes at place a b c begun low1 low2 low3 high text =
    after_two bytes at place a b begun low1 low2 high text
    ∙ (low_on bytes (at + 4) place high (q.Two a b) (q.Three a b c) text 0 15 c low3 refl (three_may a b c low1.2 low1.3 low2.2 low2.3 low3.3) ∙ ap (λ (k : ℕ). text_from bytes k (p.Low place high (q.Three a b c)) text) (let k : at + 4 + 1 ≡ at + 5 = omega arith in k))

-- a digit that makes no low half
first_rejects : (place high : ℕ) (text : List ℕ) (d : ℕ) → within 13 13 d ≡ false → low_grown place high text (grow q.Nothing d) ≡ Err (e.Surrogate place)
first_rejects place high text d outside = grind (arith, nat_tests)

second_rejects : (place high a : ℕ) (text : List ℕ) (d : ℕ) → 13 ≤ a → a ≤ 13 → within 12 15 d ≡ false → low_grown place high text (grow (q.One a) d) ≡ Err (e.Surrogate place)
second_rejects place high a text d la ha outside = grind (arith, nat_tests)

no_digit : (d : ℕ) → d ≤ 15 → within 0 15 d ≡ false → ⊥
no_digit d le outside = grind (arith, nat_tests)

pub first_low_fails : (bytes : List ℕ) (at place : ℕ) (fault : JsonFault) (u v : Unit {0}) → ReadsByte bytes at place 92 (Ok u) → ReadsByte bytes (at + 1) place 117 (Ok v) → ReadsLow bytes (at + 2) place 13 13 (Err fault) → ReadsPair bytes at place (Err fault)
first_low_fails bytes at place fault u v slash letter fails high text =
    fails_at _ _ _ (low_begun bytes at place u v slash letter high text) (low_fails bytes (at + 2) place high q.Nothing text 13 13 fault (λ d _ outside. first_rejects place high text d outside) fails)

pub second_low_fails : (bytes : List ℕ) (at place a : ℕ) (fault : JsonFault) (u v : Unit {0}) → ReadsByte bytes at place 92 (Ok u) → ReadsByte bytes (at + 1) place 117 (Ok v) → ReadsLow bytes (at + 2) place 13 13 (Ok a) → ReadsLow bytes (at + 3) place 12 15 (Err fault)
    → ReadsPair bytes at place (Err fault)
second_low_fails bytes at place a fault u v slash letter low1 fails high text =
    fails_at _ _ _ (after_one bytes at place a (low_begun bytes at place u v slash letter) low1 high text) (low_fails bytes (at + 3) place high (q.One a) text 12 15 fault (λ d _ outside. second_rejects place high a text d low1.2 low1.3 outside) fails)

pub third_low_fails : (bytes : List ℕ) (at place a b : ℕ) (fault : JsonFault) (u v : Unit {0}) → ReadsByte bytes at place 92 (Ok u) → ReadsByte bytes (at + 1) place 117 (Ok v) → ReadsLow bytes (at + 2) place 13 13 (Ok a) → ReadsLow bytes (at + 3) place 12 15 (Ok b)
    → ReadsLow bytes (at + 4) place 0 15 (Err fault) → ReadsPair bytes at place (Err fault)
third_low_fails bytes at place a b fault u v slash letter low1 low2 fails high text =
    fails_at _ _ _ (after_two bytes at place a b (low_begun bytes at place u v slash letter) low1 low2 high text) (low_fails bytes (at + 4) place high (q.Two a b) text 0 15 fault (λ d le outside. absurd (no_digit d le outside)) fails)

pub fourth_low_fails : (bytes : List ℕ) (at place a b c : ℕ) (fault : JsonFault) (u v : Unit {0}) → ReadsByte bytes at place 92 (Ok u) → ReadsByte bytes (at + 1) place 117 (Ok v) → ReadsLow bytes (at + 2) place 13 13 (Ok a) → ReadsLow bytes (at + 3) place 12 15 (Ok b)
    → ReadsLow bytes (at + 4) place 0 15 (Ok c) → ReadsLow bytes (at + 5) place 0 15 (Err fault) → ReadsPair bytes at place (Err fault)
fourth_low_fails bytes at place a b c fault u v slash letter low1 low2 low3 fails high text =
    fails_at _ _ _ (after_three bytes at place a b c (low_begun bytes at place u v slash letter) low1 low2 low3 high text) (low_fails bytes (at + 5) place high (q.Three a b c) text 0 15 fault (λ d le outside. absurd (no_digit d le outside)) fails)

pair_scans : (at place high low a b c d : ℕ) (text : List ℕ) (byte : ℕ) → hex_digit byte ≡ Some d → low ≡ four_digits a b c d → is_high high ≡ true → is_low low ≡ true → scan false at (p.Low place high (q.Three a b c)) text byte ≡ Ok (s.More p.Plain (text ++ encode_utf8 (join high low)))
unfolding pair_scan
pair_scans at place high low a b c d text byte is same hi lo =
    low_scans at place high (q.Three a b c) text byte d is ∙ (ap (pair_scan place text high) (sym same) ∙ cond-true (is_high high && is_low low) _ _ (and_from (is_high high) (is_low low) hi lo))

pub pair_read : (bytes : List ℕ) (at place a b c d low : ℕ) (u v : Unit {0}) → ReadsByte bytes at place 92 (Ok u) → ReadsByte bytes (at + 1) place 117 (Ok v) → ReadsLow bytes (at + 2) place 13 13 (Ok a) → ReadsLow bytes (at + 3) place 12 15 (Ok b)
    → ReadsLow bytes (at + 4) place 0 15 (Ok c) → ReadsLow bytes (at + 5) place 0 15 (Ok d) → low ≡ four_digits a b c d → ReadsPair bytes at place (Ok low)
pair_read bytes at place a b c d low u v slash letter low1 low2 low3 low4 is =
    let lo : is_low low ≡ true = and_from (nat_le 0xDC00 low) (nat_le low 0xDFFF) (le-leb 0xDC00 low (omega (arith, is, low1.2, low2.2))) (le-leb low 0xDFFF (omega (arith, is, low1.3, low2.3, low3.3, low4.3))) in (
      omega (arith, low4.0),
      lo,
      λ high text hi. after_three bytes at place a b c (low_begun bytes at place u v slash letter) low1 low2 low3 high text
          ∙ (scans bytes (at + 5) (get_or bytes (at + 5) 0) (p.Low place high (q.Three a b c)) p.Plain text _ low4.0 refl (pair_scans (at + 5) place high low a b c d text (get_or bytes (at + 5) 0) low4.1 is hi lo)
          ∙ ap (λ (k : ℕ). text_from bytes k p.Plain (text ++ encode_utf8 (join high low))) (let k : at + 5 + 1 ≡ at + 6 = omega arith in k)),
    )

-- ---- escapes

unit_scans : (place : ℕ) (text : List ℕ) (u : ℕ) → is_high u ≡ false → is_low u ≡ false → unit_scan place text u ≡ Ok (s.More p.Plain (text ++ encode_utf8 u))
unfolding unit_scan
unit_scans place text u hi lo = rw (hi, lo) refl

low_unit : (place : ℕ) (text : List ℕ) (u : ℕ) → is_high u ≡ false → is_low u ≡ true → unit_scan place text u ≡ Err (e.Surrogate place)
unfolding unit_scan
low_unit place text u hi lo = rw (hi, lo) refl

high_unit : (place : ℕ) (text : List ℕ) (u : ℕ) → is_high u ≡ true → unit_scan place text u ≡ Ok (s.More (p.Slash place u) text)
unfolding unit_scan
high_unit place text u hi = rw hi refl

unit_as : (bytes : List ℕ) (at place unit : ℕ) (text : List ℕ) (o : Scanned) → ReadsUnit bytes at (Ok unit) → unit_scan place text unit ≡ o → text_from bytes at (p.Hex place q.Nothing) text ≡ reading_by o (at + 3) (drop (at + 4) bytes) (text_from bytes (at + 4))
unit_as bytes at place unit text o read is = read.2 place text ∙ ap (λ (k : Scanned). reading_by k (at + 3) (drop (at + 4) bytes) (text_from bytes (at + 4))) is

pub unit_escape : (bytes : List ℕ) (at place unit c end : ℕ) → ReadsUnit bytes at (Ok unit) → is_high unit ≡ false → is_low unit ≡ false → c ≡ unit → end ≡ at + 4 → ReadsEscape bytes at (p.Hex place q.Nothing) (Ok (c, end))
unit_escape bytes at place unit c end read hi lo same there = (
  omega (arith, there),
  omega (arith, there, read.0),
  λ text. unit_as bytes at place unit text _ read (unit_scans place text unit hi lo)
      ∙ (ap (λ (k : ℕ). text_from bytes k p.Plain (text ++ encode_utf8 unit)) (sym there) ∙ ap (λ (k : ℕ). text_from bytes end p.Plain (text ++ encode_utf8 k)) (sym same)),
)

pub low_escape : (bytes : List ℕ) (at place unit : ℕ) → ReadsUnit bytes at (Ok unit) → is_high unit ≡ false → is_low unit ≡ true → ReadsEscape bytes at (p.Hex place q.Nothing) (Err (faults.Surrogate place))
low_escape bytes at place unit read hi lo text = fails_at _ _ _ (unit_as bytes at place unit text _ read (low_unit place text unit hi lo)) refl

pub pair_fails : (bytes : List ℕ) (at next place unit : ℕ) (fault : JsonFault) → ReadsUnit bytes at (Ok unit) → is_high unit ≡ true → next ≡ at + 4 → ReadsPair bytes next place (Err fault) → ReadsEscape bytes at (p.Hex place q.Nothing) (Err fault)
pair_fails bytes at next place unit fault read hi there fails text =
    fails_at _ _ _ (unit_as bytes at place unit text _ read (high_unit place text unit hi) ∙ ap (λ (k : ℕ). text_from bytes k (p.Slash place unit) text) (sym there)) (fails unit text)

pub pair_escape : (bytes : List ℕ) (at next place unit low c end : ℕ) → ReadsUnit bytes at (Ok unit) → is_high unit ≡ true → next ≡ at + 4 → ReadsPair bytes next place (Ok low) → c ≡ join unit low → end ≡ next + 6 → ReadsEscape bytes at (p.Hex place q.Nothing) (Ok (c, end))
pair_escape bytes at next place unit low c end read hi there pair same far = (
  omega (arith, there, far),
  omega (arith, far, pair.0),
  λ text. unit_as bytes at place unit text _ read (high_unit place text unit hi)
      ∙ (ap (λ (k : ℕ). text_from bytes k (p.Slash place unit) text) (sym there)
      ∙ (pair.2 unit text hi
      ∙ (ap (λ (k : ℕ). text_from bytes k p.Plain (text ++ encode_utf8 (join unit low))) (sym far) ∙ ap (λ (k : ℕ). text_from bytes end p.Plain (text ++ encode_utf8 k)) (sym same)))),
)

short_scans : (at place : ℕ) (text : List ℕ) (b c : ℕ) → b ≢ 117 → short b ≡ Some c → scan false at (p.Escape place) text b ≡ Ok (s.More p.Plain (text ++ encode_utf8 c))
unfolding scan escape_scan
short_scans at place text b c not is =
    cond-false (b == 117) _ _ (ne_eqb b 117 not) ∙ (ap (short_by text) is ∙ ap (λ (w : List ℕ). Ok (s.More p.Plain (text ++ w))) (sym (encode_ascii c (short_ascii b c is))))

pub short_read : (bytes : List ℕ) (at place letter c : ℕ) → at < length bytes → get_or bytes at 0 ≢ 117 → short (get_or bytes at 0) ≡ Some letter → c ≡ letter → ReadsEscape bytes at (p.Escape place) (Ok (c, at + 1))
short_read bytes at place letter c lt not is same = (
  omega arith,
  omega arith,
  λ text. scans bytes at (get_or bytes at 0) (p.Escape place) p.Plain text _ lt refl (short_scans at place text (get_or bytes at 0) letter not is)
      ∙ ap (λ (k : ℕ). text_from bytes (at + 1) p.Plain (text ++ encode_utf8 k)) (sym same),
)

short_scan_bad : (at place : ℕ) (text : List ℕ) (b : ℕ) → b ≢ 117 → short b ≡ None → scan false at (p.Escape place) text b ≡ Err e.Syntax
unfolding scan escape_scan
short_scan_bad at place text b not is = cond-false (b == 117) _ _ (ne_eqb b 117 not) ∙ ap (short_by text) is

pub short_bad : (bytes : List ℕ) (at place : ℕ) → at < length bytes → get_or bytes at 0 ≢ 117 → short (get_or bytes at 0) ≡ None → ReadsEscape bytes at (p.Escape place) (Err (faults.Syntax at))
short_bad bytes at place lt not is text = fails_at _ _ _ (scan_fails bytes at (get_or bytes at 0) (p.Escape place) text e.Syntax lt refl (short_scan_bad at place text (get_or bytes at 0) not is)) refl

backslash : (bytes : List ℕ) (at : ℕ) (text : List ℕ) → at < length bytes → get_or bytes at 0 ≡ 92 → text_from bytes at p.Plain text ≡ text_from bytes (at + 1) (p.Escape at) text
unfolding scan plain_scan
backslash bytes at text lt is = scans bytes at 92 p.Plain (p.Escape at) text text lt is refl

letter_u : (bytes : List ℕ) (at place : ℕ) (text : List ℕ) → at < length bytes → get_or bytes at 0 ≡ 117 → text_from bytes at (p.Escape place) text ≡ text_from bytes (at + 1) (p.Hex place q.Nothing) text
unfolding scan escape_scan
letter_u bytes at place text lt is = scans bytes at 117 (p.Escape place) (p.Hex place q.Nothing) text text lt is refl

later_escape : (bytes : List ℕ) (i k : ℕ) (part next : Part) (r : Result (ℕ × ℕ) JsonFault) → i ≤ k → ((text : List ℕ) → text_from bytes i part text ≡ text_from bytes k next text) → ReadsEscape bytes k next r → ReadsEscape bytes i part r
later_escape bytes i k part next (Ok x) le same read = (omega (arith, read.0), read.1, λ text. same text ∙ read.2 text)
later_escape bytes i k part next (Err fault) le same fails = λ text. fails_at _ _ fault (same text) (fails text)

pub escape_ended : (bytes : List ℕ) (at : ℕ) → at < length bytes → get_or bytes at 0 ≡ 92 → length bytes ≤ at + 1 → ReadsEscape bytes at p.Plain (Err faults.Ended)
escape_ended bytes at lt is le text = fails_at _ _ _ (backslash bytes at text lt is ∙ scan_ends bytes (at + 1) (p.Escape at) text le) refl

pub short_escape : (bytes : List ℕ) (at : ℕ) (r : Result (ℕ × ℕ) JsonFault) → at < length bytes → get_or bytes at 0 ≡ 92 → ((place : ℕ) → ReadsEscape bytes (at + 1) (p.Escape place) r) → ReadsEscape bytes at p.Plain r
short_escape bytes at r lt is read = later_escape bytes at (at + 1) p.Plain (p.Escape at) r (omega arith) (λ text. backslash bytes at text lt is) (read at)

pub long_escape : (bytes : List ℕ) (at : ℕ) (r : Result (ℕ × ℕ) JsonFault) → at < length bytes → get_or bytes at 0 ≡ 92 → at + 1 < length bytes → get_or bytes (at + 1) 0 ≡ 117 → ReadsEscape bytes (at + 2) (p.Hex at q.Nothing) r → ReadsEscape bytes at p.Plain r
long_escape bytes at r lt is lt' letter read =
    later_escape bytes at (at + 2) p.Plain (p.Hex at q.Nothing) r (omega arith)
    (λ text. backslash bytes at text lt is ∙ (letter_u bytes (at + 1) at text lt' letter ∙ ap (λ (k : ℕ). text_from bytes k (p.Hex at q.Nothing) text) (let k : at + 1 + 1 ≡ at + 2 = omega arith in k))) read

-- ---- whole strings

pub closed_utf8 : (bs : List ℕ) (at : ℕ) (part : Part) (text f rest : List ℕ) (q : ℕ) → ((w g : List ℕ) → TextLeft false part text w g → IsUtf8 g) → reading bs at part text ≡ Closed f rest q → IsUtf8 f
unfolding reading
closed_utf8 [] at part text f rest q holds is = absurd (cc)
closed_utf8 (b ∷ bs) at part text f rest q holds is =
    by_scan (λ next more on e. closed_utf8 bs (at + 1) next more f rest q on e) (scan false at part text b) refl is
  where
    by_scan : ((next : Part) (more : List ℕ) → ((w g : List ℕ) → TextLeft false next more w g → IsUtf8 g) → reading bs (at + 1) next more ≡ Closed f rest q → IsUtf8 f) → (o : Scanned) → scan false at part text b ≡ o → reading_by o at bs (reading bs (at + 1)) ≡ Closed f rest q → IsUtf8 f
    by_scan tail (Ok (s.More next more)) same e = tail next more (more_holds at part next text more b holds same) e
    by_scan tail (Ok (s.Done made)) same e = done_holds at part text f b holds (same ∙ ap (λ (k : List ℕ). Ok (s.Done k)) (let x : made ≡ f = cc in x))
    by_scan tail (Err why) same e = absurd (cc)

pub text_utf8 : (bytes : List ℕ) (at end : ℕ) (text rest : List ℕ) → text_from bytes at p.Plain [] ≡ Closed text rest end → IsUtf8 text
unfolding text_from
text_utf8 bytes at end text rest is = closed_utf8 (drop at bytes) at p.Plain [] text rest end plain_holds is

quote_closes : (bytes : List ℕ) (at : ℕ) (text : List ℕ) → at < length bytes → get_or bytes at 0 ≡ 34 → text_from bytes at p.Plain text ≡ Closed text (drop (at + 1) bytes) at
unfolding scan plain_scan
quote_closes bytes at text lt is = scan_done bytes at 34 p.Plain text text lt is refl

pub plain_read : (bytes : List ℕ) (at end : ℕ) → ReadsRun bytes at (Ok end) → get_or bytes end 0 ≡ 34 → text_from bytes at p.Plain [] ≡ Closed (cut bytes at end) (drop (end + 1) bytes) end
plain_read bytes at end (le, lt, all, _) quote = unescaped_on bytes at end [] le (omega arith) all ∙ quote_closes bytes end (cut bytes at end) lt quote

-- a text is read so far
pub record SoFar (bytes : List ℕ) (at i : ℕ) (text : List ℕ) : Type 0 where
  pub after : at ≤ i
  pub within : i < length bytes
  pub edge : (get_or bytes i 0 == 34 || get_or bytes i 0 == 92) ≡ true
  pub reads : text_from bytes at p.Plain [] ≡ text_from bytes i p.Plain text

pub first_run : (bytes : List ℕ) (at first : ℕ) (text : List ℕ) → ReadsRun bytes at (Ok first) → text ≡ cut bytes at first → SoFar bytes at first text
first_run bytes at first text (le, lt, all, edge) is = record {
  after = le;
  within = lt;
  edge = edge;
  reads = unescaped_on bytes at first [] le (omega arith) all ∙ ap (λ (w : List ℕ). text_from bytes first p.Plain w) (sym is);
}

pub one_more : (bytes : List ℕ) (at i from end c : ℕ) (text grown new : List ℕ) → SoFar bytes at i text → ReadsEscape bytes i p.Plain (Ok (c, from)) → ReadsRun bytes from (Ok end) → grown ≡ text ++ encode_utf8 c → new ≡ grown ++ cut bytes from end → SoFar bytes at end new
one_more bytes at i from end c text grown new so_far (after, within, read) (le, lt, all, edge) is is' = record {
  after = omega (arith, so_far.after);
  within = lt;
  edge = edge;
  reads = so_far.reads ∙ (read text ∙ (unescaped_on bytes from end (text ++ encode_utf8 c) le (omega arith) all
      ∙ ap (λ (w : List ℕ). text_from bytes end p.Plain w) (ap (λ (w : List ℕ). w ++ cut bytes from end) (sym is) ∙ sym is')));
}

pub text_closed : (bytes : List ℕ) (at i : ℕ) (text : List ℕ) → SoFar bytes at i text → get_or bytes i 0 ≡ 34 → text_from bytes at p.Plain [] ≡ Closed text (drop (i + 1) bytes) i
text_closed bytes at i text so_far quote = so_far.reads ∙ quote_closes bytes i text so_far.within quote

pub text_read : (bytes : List ℕ) (at i : ℕ) (text made : List ℕ) → at ≤ i → i < length bytes → text_from bytes at p.Plain [] ≡ Closed text (drop (i + 1) bytes) i → made ≡ text → ReadsText bytes at (Ok (made, i))
text_read bytes at i text made le lt is same = (le, lt, is ∙ ap (λ (w : List ℕ). Closed w (drop (i + 1) bytes) i) (sym same))
