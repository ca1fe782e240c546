-- What stands before a byte that is refused, where the refusal names a place.
use Rattle.std.proofs.Common.{◌≡◌, ℕ, ◌+◌, Bool, true, false, cond, List, [], ◌∷◌, ◌++◌, length, Option, Some, None, Ok, Err, refl, sym, ap, subst, ◌∙◌, arith, append_assoc, length-append, ◌⊎◌, inl, inr}
use Rattle.std.specs.Prelude.{◌==◌, ◌&&◌, encode_utf8, codes}
use Rattle.std.proofs.lemmas.Bool.{cond_both, eqb-true}
use Rattle.std.proofs.lemmas.List.{append-nil}
use Rattle.std.proofs.lemmas.Bool.Decides.{nat_tests}
use Rattle.json_value.specs.declared.tree.Json.TheVariants as j
use Rattle.json_machine.specs.Refusal.{Refusal}
use Rattle.json_machine.specs.Refusal as e
use Rattle.json_machine.specs.Mode.{Mode}
use Rattle.json_machine.specs.Mode as m
use Rattle.json_machine.specs.Frame as f
use Rattle.json_machine.specs.Part.{Part}
use Rattle.json_machine.specs.Part as p
use Rattle.json_machine.specs.Progress as s
use Rattle.json_machine.specs.declared.begun.Tail.{Tail}
use Rattle.json_machine.specs.declared.begun.Tail.TheVariants as tails
use Rattle.json_machine.specs.Quad.{Quad}
use Rattle.json_machine.specs.Quad as q
use Rattle.json_value.specs.Strings.{within, is_plain, short, hex_digit, is_high, is_low, four_digits, join, IsWide, IsUnit, digits, Chars}
use Rattle.json_value.specs.Grammar.{Rules, is_blank, has}
use Rattle.json_faults.specs.Faults.{lone, any_names, InString, AtName, SequenceAt, HighAt, LowAt, NameAt}
use Rattle.json_machine.specs.Left.{Tails, Digits, TextLeft}
use Rattle.json_machine.specs.Scan.{Scanned, lead, with, wide_by, plain_scan, short_by, escape_scan, unit_scan, hex_by, is_cut, hex_scan, slash_scan, letter_scan, may_be_low, pair_scan, low_by, low_scan, wide_next, wide_scan, tail_low, tail_high, scan}
use Rattle.exact_read.specs.Steps.{run, on_step}
use Rattle.json_machine.specs.Machine.{Frames, Pairs, ReaderState, Stepped, to, open_by, begin, value_step, first_step, after_step, word_step, number_step, str_by, first_name_step, next_name_step, named, naming_by, colon_step, step_by, step, start}
use Rattle.json_machine.proofs.Texts.{IsScanSound, scan_sound}
use Rattle.json_machine.proofs.Wides.{one_tail, two_tails, three_tails, tails_wide}
use Rattle.json_machine.proofs.TextsEnd.{lowest}
use Rattle.json_machine.proofs.TextsGo.{IsPart, tail_holds}
use Rattle.exact_read.proofs.Machines.{ok_is, run_both}
use Rattle.json_faults.proofs.Laxer.{lone_any_names, run_agrees}
use Rattle.json_faults.proofs.Viable.{runs_valid, after_viable}
use Rattle.json_machine.proofs.Complete.{IsValid}
use Rattle.json_faults.proofs.Inside.{Inner, value, name, inside, goes_inside, step_inside}

-- the digits that were read of a unit
abbrev pub HasDigits : Quad → List ℕ → Type 0
HasDigits q.Nothing ds = ds ≡ []
HasDigits (q.One a) ds = (x : ℕ) × (ds ≡ x ∷ []) × (hex_digit x ≡ Some a)
HasDigits (q.Two a b) ds = (x : ℕ) × (y : ℕ) × (ds ≡ x ∷ (y ∷ [])) × (hex_digit x ≡ Some a) × (hex_digit y ≡ Some b)
HasDigits (q.Three a b c) ds = (x : ℕ) × (y : ℕ) × (z : ℕ) × (ds ≡ x ∷ (y ∷ (z ∷ []))) × (hex_digit x ≡ Some a) × (hex_digit y ≡ Some b) × (hex_digit z ≡ Some c)

-- an escape that begins at the place, with these bytes after `\u`
pub record EscapeAt (place : ℕ) (front ds : List ℕ) : Type 0 where
  pub before : List ℕ
  pub parts : front ≡ before ++ (92 ∷ (117 ∷ ds))
  pub place_is : length before ≡ place
  pub in_string : InString before

-- and with the digits of a high surrogate and some bytes after it
pub record HighBegun (place high : ℕ) (front others : List ℕ) : Type 0 where
  pub digits : List ℕ
  pub is_unit : IsUnit high digits
  pub high_is : is_high high ≡ true
  pub at : EscapeAt place front (digits ++ others)

-- a character of several bytes that is begun, and what completes it
pub record WideBegun (place : ℕ) (tail : Tail) (front : List ℕ) : Type 0 where
  pub before : List ℕ
  pub first : ℕ
  pub others : List ℕ
  pub parts : front ≡ before ++ (first ∷ others)
  pub place_is : length before ≡ place
  pub completes : (u : List ℕ) → Tails tail [] u u → IsWide (first ∷ (others ++ u))

abbrev pub PartAt : Part → List ℕ → Type 0
PartAt p.Plain front = Unit {0}
PartAt (p.Escape place) front = (before : List ℕ) × (front ≡ before ++ (92 ∷ [])) × (length before ≡ place) × InString before
PartAt (p.Hex place quad) front = (ds : List ℕ) × HasDigits quad ds × EscapeAt place front ds
PartAt (p.Slash place high) front = HighBegun place high front []
PartAt (p.Letter place high) front = HighBegun place high front (92 ∷ [])
PartAt (p.Low place high quad) front = (ds : List ℕ) × HasDigits quad ds × HighBegun place high front (92 ∷ (117 ∷ ds))
PartAt (p.Wide place tail) front = WideBegun place tail front

-- where each surrogate outside a pair is refused
abbrev RefusedAt : ℕ → List ℕ → ℕ → Type 0
RefusedAt place front b = HighAt place front ⊎ LowAt place (front ++ (b ∷ []))

abbrev pub ScanAt : List ℕ → ℕ → Scanned → Type 0
ScanAt front b (Ok (s.Done text)) = Unit {0}
ScanAt front b (Ok (s.More part text)) = PartAt part (front ++ (b ∷ []))
ScanAt front b (Err (e.Malformed place)) = SequenceAt place front
ScanAt front b (Err (e.Surrogate place)) = RefusedAt place front b
ScanAt front b (Err e.Syntax) = Unit {0}
ScanAt front b (Err why) = ⊥

scan_branch : (front : List ℕ) (b : ℕ) (t : Bool) (x y : Scanned) → (t ≡ true → ScanAt front b x) → (t ≡ false → ScanAt front b y) → ScanAt front b (cond t x y)
scan_branch front b t x y h k = cond_both t x y (ScanAt front b) h k

-- one byte more
longer : (place b : ℕ) (front ds : List ℕ) → EscapeAt place front ds → EscapeAt place (front ++ (b ∷ [])) (ds ++ (b ∷ []))
longer place b front ds at = record { before = at.before; parts = ap (λ (k : List ℕ). k ++ (b ∷ [])) at.parts ∙ append_assoc at.before (92 ∷ (117 ∷ ds)) (b ∷ []); place_is = at.place_is; in_string = at.in_string }

high_longer : (place high b : ℕ) (front others : List ℕ) → HighBegun place high front others → HighBegun place high (front ++ (b ∷ [])) (others ++ (b ∷ []))
high_longer place high b front others h = record {
  digits = h.digits;
  is_unit = h.is_unit;
  high_is = h.high_is;
  at = subst (λ (k : List ℕ). EscapeAt place (front ++ (b ∷ [])) k) (append_assoc h.digits others (b ∷ [])) (longer place b front (h.digits ++ others) h.at);
}

first_digit : (ds : List ℕ) (b d : ℕ) → HasDigits q.Nothing ds → hex_digit b ≡ Some d → HasDigits (q.One d) (ds ++ (b ∷ []))
first_digit ds b d made is = (b, ap (λ (k : List ℕ). k ++ (b ∷ [])) made, is)

second_digit : (a : ℕ) (ds : List ℕ) (b d : ℕ) → HasDigits (q.One a) ds → hex_digit b ≡ Some d → HasDigits (q.Two a d) (ds ++ (b ∷ []))
second_digit a ds b d (x, made, hx) is = (x, b, ap (λ (k : List ℕ). k ++ (b ∷ [])) made, hx, is)

third_digit : (a c : ℕ) (ds : List ℕ) (b d : ℕ) → HasDigits (q.Two a c) ds → hex_digit b ≡ Some d → HasDigits (q.Three a c d) (ds ++ (b ∷ []))
third_digit a c ds b d (x, y, made, hx, hy) is = (x, y, b, ap (λ (k : List ℕ). k ++ (b ∷ [])) made, hx, hy, is)

whole_unit : (a c g d b : ℕ) (ds : List ℕ) → hex_digit b ≡ Some d → HasDigits (q.Three a c g) ds → IsUnit (four_digits a c g d) (ds ++ (b ∷ []))
whole_unit a c g d b ds is (x, y, z, made, hx, hy, hz) = subst (λ (k : List ℕ). IsUnit (four_digits a c g d) (k ++ (b ∷ []))) (sym made) (digits a c g d x y z b hx hy hz is)

-- ---- a high surrogate that waits: its place, whatever is to come of the low one

-- digits that complete the unit
record Completed (u : ℕ) (ds w : List ℕ) : Type 0 where
  missing : ℕ
  more : List ℕ
  parts : w ≡ missing ∷ more
  is_unit : IsUnit u (ds ++ w)

step_completed : (u b : ℕ) (ds after w : List ℕ) → w ≡ b ∷ after → IsUnit u ((ds ++ (b ∷ [])) ++ after) → Completed u ds w
step_completed u b ds after w cut is = record { missing = b; more = after; parts = cut; is_unit = subst (IsUnit u) (append_assoc ds (b ∷ []) after ∙ ap (λ (k : List ℕ). ds ++ k) (sym cut)) is }

three_completed : (a c g u : ℕ) (ds w : List ℕ) → HasDigits (q.Three a c g) ds → Digits (q.Three a c g) u [] w → Completed u ds w
three_completed a c g u ds w has dg = step_completed u dg.byte ds dg.after w dg.parts
    (subst (IsUnit u) (sym (append-nil (ds ++ (dg.byte ∷ []))) ∙ ap (λ (k : List ℕ). (ds ++ (dg.byte ∷ [])) ++ k) (sym dg.onward.1)) (subst (λ (k : ℕ). IsUnit k (ds ++ (dg.byte ∷ []))) dg.onward.0 (whole_unit a c g dg.value dg.byte ds dg.is has)))

two_completed : (a c u : ℕ) (ds w : List ℕ) → HasDigits (q.Two a c) ds → Digits (q.Two a c) u [] w → Completed u ds w
two_completed a c u ds w has dg = step_completed u dg.byte ds dg.after w dg.parts (three_completed a c dg.value u (ds ++ (dg.byte ∷ [])) dg.after (third_digit a c ds dg.byte dg.value has dg.is) dg.onward).is_unit

one_completed : (a u : ℕ) (ds w : List ℕ) → HasDigits (q.One a) ds → Digits (q.One a) u [] w → Completed u ds w
one_completed a u ds w has dg = step_completed u dg.byte ds dg.after w dg.parts (two_completed a dg.value u (ds ++ (dg.byte ∷ [])) dg.after (second_digit a ds dg.byte dg.value has dg.is) dg.onward).is_unit

completed : (quad : Quad) (u : ℕ) (ds w : List ℕ) → HasDigits quad ds → Digits quad u [] w → Completed u ds w
completed (q.Three a c g) u ds w has dg = three_completed a c g u ds w has dg
completed (q.Two a c) u ds w has dg = two_completed a c u ds w has dg
completed (q.One a) u ds w has dg = one_completed a u ds w has dg
completed q.Nothing u ds w has dg = step_completed u dg.byte ds dg.after w dg.parts (one_completed dg.value u (ds ++ (dg.byte ∷ [])) dg.after (first_digit ds dg.byte dg.value has dg.is) dg.onward).is_unit

waits_at : (place high : ℕ) (front others : List ℕ) (low : ℕ) (low_digits : List ℕ) (missing : ℕ) (more : List ℕ) → HighBegun place high front others → IsUnit low low_digits → is_low low ≡ true
    → others ++ (missing ∷ more) ≡ 92 ∷ (117 ∷ low_digits) → HighAt place front
waits_at place high front others low low_digits missing more h is_unit lo begun = record {
  before = h.at.before;
  unit = high;
  digits = h.digits;
  others = others;
  low = low;
  low_digits = low_digits;
  missing = missing;
  more = more;
  parts = h.at.parts;
  place_is = h.at.place_is;
  in_string = h.at.in_string;
  is_unit = h.is_unit;
  high = h.high_is;
  is_low_unit = is_unit;
  is_low_one = lo;
  begun = begun;
}

-- `dc00`
least_low : IsUnit (four_digits 13 12 0 0) (100 ∷ (99 ∷ (48 ∷ (48 ∷ []))))
least_low = digits 13 12 0 0 100 99 48 48 refl refl refl refl

slash_waits : (place high : ℕ) (front : List ℕ) → HighBegun place high front [] → HighAt place front
slash_waits place high front h = waits_at place high front [] (four_digits 13 12 0 0) (100 ∷ (99 ∷ (48 ∷ (48 ∷ [])))) 92 (117 ∷ (100 ∷ (99 ∷ (48 ∷ (48 ∷ []))))) h least_low refl refl

letter_waits : (place high : ℕ) (front : List ℕ) → HighBegun place high front (92 ∷ []) → HighAt place front
letter_waits place high front h = waits_at place high front (92 ∷ []) (four_digits 13 12 0 0) (100 ∷ (99 ∷ (48 ∷ (48 ∷ [])))) 117 (100 ∷ (99 ∷ (48 ∷ (48 ∷ [])))) h least_low refl refl

low_waits : (place high : ℕ) (quad : Quad) (ds front : List ℕ) → may_be_low quad ≡ true → HasDigits quad ds → HighBegun place high front (92 ∷ (117 ∷ ds)) → HighAt place front
low_waits place high quad ds front may has h =
    let l = lowest quad [] may in
    let k = completed quad l.unit ds l.bytes has l.digits in
    waits_at place high front (92 ∷ (117 ∷ ds)) l.unit (ds ++ l.bytes) k.missing k.more h k.is_unit l.low (ap (λ (m : List ℕ). 92 ∷ (117 ∷ (ds ++ m))) (sym k.parts))

-- ---- a character of several bytes

sequence_of : (place : ℕ) (tail : Tail) (front : List ℕ) → tail_holds tail → WideBegun place tail front → SequenceAt place front
sequence_of place (tails.One lo hi) front holds k = record { before = k.before; first = k.first; others = k.others; missing = lo; more = []; parts = k.parts; place_is = k.place_is; is_wide = k.completes (lo ∷ []) (one_tail lo hi lo [] holds.0) }
sequence_of place (tails.Two lo hi) front holds k =
    record { before = k.before; first = k.first; others = k.others; missing = lo; more = 128 ∷ []; parts = k.parts; place_is = k.place_is; is_wide = k.completes (lo ∷ (128 ∷ [])) (two_tails lo hi lo 128 [] holds.0 refl) }
sequence_of place (tails.Three lo hi) front holds k =
    record { before = k.before; first = k.first; others = k.others; missing = lo; more = 128 ∷ (128 ∷ []); parts = k.parts; place_is = k.place_is; is_wide = k.completes (lo ∷ (128 ∷ (128 ∷ []))) (three_tails lo hi lo 128 128 [] holds.0 refl refl) }

wide_by_at : (front : List ℕ) (at : ℕ) (text : List ℕ) (b : ℕ) (o : Option Tail) → length front ≡ at → lead b ≡ o → ScanAt front b (wide_by at text b o)
wide_by_at front at text b None is led = tt
wide_by_at front at text b (Some tail) is led = record { before = front; first = b; others = []; parts = refl; place_is = is; completes = λ u ts. (tails_wide b tail u [] u led ts).0 }

wide_more : (place b : ℕ) (tail next : Tail) (front : List ℕ) → WideBegun place tail front → ((u : List ℕ) → Tails next [] u u → Tails tail [] (b ∷ u) (b ∷ u)) → WideBegun place next (front ++ (b ∷ []))
wide_more place b tail next front k lift = record {
  before = k.before;
  first = k.first;
  others = k.others ++ (b ∷ []);
  parts = ap (λ (m : List ℕ). m ++ (b ∷ [])) k.parts ∙ append_assoc k.before (k.first ∷ k.others) (b ∷ []);
  place_is = k.place_is;
  completes = λ u ts. subst (λ (m : List ℕ). IsWide (k.first ∷ m)) (sym (append_assoc k.others (b ∷ []) u)) (k.completes (b ∷ u) (lift u ts));
}

next_at : (front : List ℕ) (b place : ℕ) (tail : Tail) → within (tail_low tail) (tail_high tail) b ≡ true → WideBegun place tail front → PartAt (wide_next place tail) (front ++ (b ∷ []))
next_at front b place (tails.One lo hi) is k = tt
next_at front b place (tails.Two lo hi) is k = wide_more place b (tails.Two lo hi) (tails.One 128 191) front k (λ u ts. record { byte = b; others = u; after = u; made = refl; parts = refl; is = is; onward = ts })
next_at front b place (tails.Three lo hi) is k = wide_more place b (tails.Three lo hi) (tails.Two 128 191) front k (λ u ts. record { byte = b; others = u; after = u; made = refl; parts = refl; is = is; onward = ts })

-- ---- one byte of a string

short_at : (front : List ℕ) (b : ℕ) (text : List ℕ) (o : Option ℕ) → ScanAt front b (short_by text o)
short_at front b text None = tt
short_at front b text (Some c) = tt

unit_at : (front : List ℕ) (b place : ℕ) (text : List ℕ) (u : ℕ) (ds : List ℕ) → IsUnit u ds → EscapeAt place (front ++ (b ∷ [])) ds → ScanAt front b (unit_scan place text u)
unfolding unit_scan
unit_at front b place text u ds is_unit at =
    scan_branch front b (is_high u) (Ok (s.More (p.Slash place u) text)) _ (λ hi. record { digits = ds; is_unit = is_unit; high_is = hi; at = subst (EscapeAt place (front ++ (b ∷ []))) (sym (append-nil ds)) at })
    (λ _. scan_branch front b (is_low u) (Err (e.Surrogate place)) (with text (encode_utf8 u)) (λ lo. inr (record { before = at.before; unit = u; digits = ds; parts = at.parts; place_is = at.place_is; in_string = at.in_string; is_unit = is_unit; low = lo })) (λ _. tt))

hex_at : (front : List ℕ) (b place : ℕ) (quad : Quad) (text : List ℕ) (o : Option ℕ) (ds : List ℕ) → hex_digit b ≡ o → HasDigits quad ds → EscapeAt place front ds → ScanAt front b (hex_by place quad text o)
hex_at front b place quad text None ds is has at = tt
hex_at front b place q.Nothing text (Some d) ds is has at = (ds ++ (b ∷ []), first_digit ds b d has is, longer place b front ds at)
hex_at front b place (q.One x) text (Some d) ds is has at = (ds ++ (b ∷ []), second_digit x ds b d has is, longer place b front ds at)
hex_at front b place (q.Two x y) text (Some d) ds is has at = (ds ++ (b ∷ []), third_digit x y ds b d has is, longer place b front ds at)
hex_at front b place (q.Three x y z) text (Some d) ds is has at = unit_at front b place text (four_digits x y z d) (ds ++ (b ∷ [])) (whole_unit x y z d b ds is has) (longer place b front ds at)

low_at : (front : List ℕ) (b place high : ℕ) (quad : Quad) (text : List ℕ) (o : Option ℕ) (ds : List ℕ) → hex_digit b ≡ o → may_be_low quad ≡ true → HasDigits quad ds → HighBegun place high front (92 ∷ (117 ∷ ds)) → ScanAt front b (low_by place high quad text o)
unfolding pair_scan
low_at front b place high quad text None ds is may has h = inl (low_waits place high quad ds front may has h)
low_at front b place high q.Nothing text (Some d) ds is may has h =
    scan_branch front b (may_be_low (q.One d)) (Ok (s.More (p.Low place high (q.One d)) text)) (Err (e.Surrogate place)) (λ _. (ds ++ (b ∷ []), first_digit ds b d has is, high_longer place high b front (92 ∷ (117 ∷ ds)) h)) (λ _. inl (low_waits place high q.Nothing ds front may has h))
low_at front b place high (q.One x) text (Some d) ds is may has h =
    scan_branch front b (may_be_low (q.Two x d)) (Ok (s.More (p.Low place high (q.Two x d)) text)) (Err (e.Surrogate place)) (λ _. (ds ++ (b ∷ []), second_digit x ds b d has is, high_longer place high b front (92 ∷ (117 ∷ ds)) h))
    (λ _. inl (low_waits place high (q.One x) ds front may has h))
low_at front b place high (q.Two x y) text (Some d) ds is may has h =
    scan_branch front b (may_be_low (q.Three x y d)) (Ok (s.More (p.Low place high (q.Three x y d)) text)) (Err (e.Surrogate place)) (λ _. (ds ++ (b ∷ []), third_digit x y ds b d has is, high_longer place high b front (92 ∷ (117 ∷ ds)) h))
    (λ _. inl (low_waits place high (q.Two x y) ds front may has h))
low_at front b place high (q.Three x y z) text (Some d) ds is may has h =
    scan_branch front b (is_high high && is_low (four_digits x y z d)) (with text (encode_utf8 (join high (four_digits x y z d)))) (Err (e.Surrogate place)) (λ _. tt) (λ _. inl (low_waits place high (q.Three x y z) ds front may has h))

scan_at : (front : List ℕ) (at : ℕ) (part : Part) (text : List ℕ) (b : ℕ) → length front ≡ at → (part ≡ p.Plain → InString front) → IsPart part → PartAt part front → ScanAt front b (scan true at part text b)
unfolding scan plain_scan escape_scan hex_scan slash_scan letter_scan low_scan wide_scan
scan_at front at p.Plain text b is between valid here =
    scan_branch front b (b == 34) (Ok (s.Done text)) _ (λ _. tt)
    (λ _. scan_branch front b (b == 92) (Ok (s.More (p.Escape at) text)) _ (λ h. (front, ap (λ (k : ℕ). front ++ (k ∷ [])) (eqb-true _ _ h), is, between refl))
    (λ _. scan_branch front b (is_plain b) (with text (b ∷ [])) (wide_by at text b (lead b)) (λ _. tt) (λ _. wide_by_at front at text b (lead b) is refl)))
scan_at front at (p.Escape place) text b is between valid (before, cut, long, viable) =
    scan_branch front b (b == 117) (Ok (s.More (p.Hex place q.Nothing) text)) (short_by text (short b))
    (λ h. (
      [],
      refl,
      record { before = before; parts = (ap (λ (k : List ℕ). k ++ (b ∷ [])) cut ∙ append_assoc before (92 ∷ []) (b ∷ [])) ∙ ap (λ (k : ℕ). before ++ (92 ∷ (k ∷ []))) (eqb-true _ _ h); place_is = long; in_string = viable },
    ))
    (λ _. short_at front b text (short b))
scan_at front at (p.Hex place quad) text b is between valid (ds, has, here) =
    scan_branch front b (b == 256 && is_cut quad) (Ok (s.More p.Plain text)) (hex_by place quad text (hex_digit b)) (λ _. tt) (λ _. hex_at front b place quad text (hex_digit b) ds refl has here)
scan_at front at (p.Slash place high) text b is between valid here =
    scan_branch front b (b == 92) (Ok (s.More (p.Letter place high) text)) (Err (e.Surrogate place))
    (λ h. subst (λ (k : ℕ). HighBegun place high (front ++ (b ∷ [])) (k ∷ [])) (eqb-true _ _ h) (high_longer place high b front [] here)) (λ _. inl (slash_waits place high front here))
scan_at front at (p.Letter place high) text b is between valid here =
    scan_branch front b (b == 117) (Ok (s.More (p.Low place high q.Nothing) text)) (Err (e.Surrogate place))
    (λ h. ([], refl, subst (λ (k : ℕ). HighBegun place high (front ++ (b ∷ [])) (92 ∷ (k ∷ []))) (eqb-true _ _ h) (high_longer place high b front (92 ∷ []) here))) (λ _. inl (letter_waits place high front here))
scan_at front at (p.Low place high quad) text b is between valid (ds, has, here) = low_at front b place high quad text (hex_digit b) ds refl valid.1 has here
scan_at front at (p.Wide place tail) text b is between valid here =
    scan_branch front b (within (tail_low tail) (tail_high tail) b) (Ok (s.More (wide_next place tail) (text ++ b ∷ []))) (Err (e.Malformed place)) (λ h. next_at front b place tail h here) (λ _. sequence_of place tail front valid here)

-- ---- names

-- what completes the rest completes the whole
pub record NameSoFar (place : ℕ) (part : Part) (text front : List ℕ) : Type 0 where
  pub before : List ℕ
  pub read : List ℕ
  pub parts : front ≡ before ++ (34 ∷ read)
  pub place_is : length before ≡ place
  pub at_name : AtName before
  pub completes : (w f : List ℕ) → TextLeft true part text w f → Chars true f (read ++ w)

abbrev pub ModeAt : Mode → List ℕ → Type 0
ModeAt (m.Str part text) front = PartAt part front
ModeAt (m.Naming ms place part text) front = PartAt part front × NameSoFar place part text front
ModeAt _ front = Unit {0}

abbrev pub OutcomeAt : List ℕ → ℕ → Stepped → Type 0
OutcomeAt front b (Ok next) = ModeAt next.mode (front ++ (b ∷ []))
OutcomeAt front b (Err (e.Malformed place)) = SequenceAt place front
OutcomeAt front b (Err (e.Surrogate place)) = RefusedAt place front b
OutcomeAt front b (Err (e.Twice place)) = NameAt place (front ++ (b ∷ []))
OutcomeAt front b (Err why) = Unit {0}

branch_at : (front : List ℕ) (b : ℕ) (t : Bool) (x y : Stepped) → (t ≡ true → OutcomeAt front b x) → OutcomeAt front b y → OutcomeAt front b (cond t x y)
branch_at front b t x y h k = cond_both t x y (OutcomeAt front b) h (λ _. k)

str_at : (front : List ℕ) (b : ℕ) (fs : Frames) (o : Scanned) → ScanAt front b o → OutcomeAt front b (str_by fs o)
str_at front b fs (Ok (s.Done text)) h = tt
str_at front b fs (Ok (s.More part text)) h = h
str_at front b fs (Err e.Deep) h = absurd h
str_at front b fs (Err (e.Twice place)) h = absurd h
str_at front b fs (Err _) h = h

naming_at : (front : List ℕ) (b : ℕ) (fs : Frames) (ms : Pairs) (place : ℕ) (part : Part) (text : List ℕ) (o : Scanned) → NameSoFar place part text front → IsScanSound true (TextLeft true part text) b o → ScanAt front b o
    → OutcomeAt front b (naming_by true fs ms place o)
unfolding named
naming_at front b fs ms place part text (Ok (s.Done nm)) so sound h = branch_at front b (has ms nm) (Err (e.Twice place)) (to (m.Colon ms nm) fs)
    (λ _. record {
      before = so.before;
      name = nm;
      spelled = so.read ++ (b ∷ []);
      parts = ap (λ (k : List ℕ). k ++ (b ∷ [])) so.parts ∙ append_assoc so.before (34 ∷ so.read) (b ∷ []);
      place_is = so.place_is;
      at_name = so.at_name;
      is_name = so.completes (b ∷ []) nm sound;
    }) tt
naming_at front b fs ms place part text (Ok (s.More part' text')) so sound h = (
  h,
  record {
    before = so.before;
    read = so.read ++ (b ∷ []);
    parts = ap (λ (k : List ℕ). k ++ (b ∷ [])) so.parts ∙ append_assoc so.before (34 ∷ so.read) (b ∷ []);
    place_is = so.place_is;
    at_name = so.at_name;
    completes = λ w f left. subst (λ (k : List ℕ). Chars true f k) (sym (append_assoc so.read (b ∷ []) w)) (so.completes (b ∷ w) f (sound w f left));
  },
)
naming_at front b fs ms place part text (Err e.Syntax) so sound h = tt
naming_at front b fs ms place part text (Err (e.Malformed at)) so sound h = h
naming_at front b fs ms place part text (Err (e.Surrogate at)) so sound h = h
naming_at front b fs ms place part text (Err e.Deep) so sound h = absurd h
naming_at front b fs ms place part text (Err (e.Twice at)) so sound h = absurd h

quote_at : (front : List ℕ) (at b : ℕ) (ms : Pairs) (fs : Frames) → length front ≡ at → AtName front → b ≡ 34 → OutcomeAt front b (to (m.Naming ms at p.Plain []) fs)
quote_at front at b ms fs is there same = (tt, record { before = front; read = []; parts = ap (λ (k : ℕ). front ++ (k ∷ [])) same; place_is = is; at_name = there; completes = λ w f left. go w f left })
  where
    go : (w f : List ℕ) → TextLeft true p.Plain [] w f → Chars true f w
    go w f (t, chars, e) = subst (λ (k : List ℕ). Chars true k w) (sym e) chars

-- ---- what may follow a state

single : (r : Rules) (b n : ℕ) (x y : ReaderState) → step r n x b ≡ Ok y → run (step r) (b ∷ []) n x ≡ Ok y
unfolding run
single r b n x y is = rw is refl

inner_blank : (inner : Inner) (n : ℕ) (text : List ℕ) (fs : Frames) → step lone n (record { mode = inside inner p.Plain text; frames = fs }) 32 ≡ Ok (record { mode = inside inner p.Plain (text ++ (32 ∷ [])); frames = fs })
unfolding scan plain_scan
inner_blank inner n text fs = step_inside inner n p.Plain text fs 32 ∙ goes_inside inner fs p.Plain (text ++ (32 ∷ []))

inner_slash : (inner : Inner) (n : ℕ) (text : List ℕ) (fs : Frames) → step lone n (record { mode = inside inner p.Plain text; frames = fs }) 92 ≡ Ok (record { mode = inside inner (p.Escape n) text; frames = fs })
unfolding scan plain_scan
inner_slash inner n text fs = step_inside inner n p.Plain text fs 92 ∙ goes_inside inner fs (p.Escape n) text

in_string_at : (inner : Inner) (front : List ℕ) (part : Part) (text : List ℕ) (fs : Frames) → run (step lone) front 0 start ≡ Ok (record { mode = inside inner part text; frames = fs }) → part ≡ p.Plain → InString front
in_string_at inner front part text fs runs is = (
  after_viable lone front (codes " ") x _ refl here (single lone 32 (length front) x _ (inner_blank inner (length front) text fs)),
  after_viable lone front (92 ∷ []) x _ refl here (single lone 92 (length front) x _ (inner_slash inner (length front) text fs)),
)
  where
    x : ReaderState
    x = record { mode = inside inner p.Plain text; frames = fs }

    here : run (step lone) front 0 start ≡ Ok x
    here = runs ∙ ap (λ (k : Part). Ok (record { mode = inside inner k text; frames = fs })) is

first_name_runs : (n : ℕ) (fs : Frames) → run (step any_names) (codes " \"\":") n (record { mode = m.FirstName; frames = fs }) ≡ Ok (record { mode = m.Value; frames = f.Member [] [] ∷ fs })
unfolding run step first_name_step scan plain_scan named colon_step
first_name_runs n fs = refl

next_name_runs : (n : ℕ) (fs : Frames) (ms : Pairs) → run (step any_names) (codes " \"\":") n (record { mode = m.NextName ms; frames = fs }) ≡ Ok (record { mode = m.Value; frames = f.Member ms [] ∷ fs })
unfolding run step next_name_step scan plain_scan named colon_step
next_name_runs n fs ms = refl

at_name_of : (front : List ℕ) (x z : ReaderState) → run (step lone) front 0 start ≡ Ok x → run (step any_names) (codes " \"\":") (length front) x ≡ Ok z → AtName front
at_name_of front x z runs then = after_viable any_names front (codes " \"\":") x z refl (run_agrees lone any_names lone_any_names front 0 start x runs) then

-- ---- one byte

step_by_at : (front : List ℕ) (at : ℕ) (mode : Mode) (fs : Frames) (b : ℕ) → length front ≡ at → IsValid mode → run (step lone) front 0 start ≡ Ok (record { mode = mode; frames = fs }) → ModeAt mode front → OutcomeAt front b (step_by lone at mode fs b)
unfolding value_step first_step begin open_by after_step word_step number_step first_name_step next_name_step colon_step
step_by_at front at (m.Str part text) fs b is valid runs here = str_at front b fs (scan true at part text b) (scan_at front at part text b is (in_string_at value front part text fs runs) valid here)
step_by_at front at (m.Naming ms place part text) fs b is valid runs here =
    naming_at front b fs ms place part text (scan true at part text b) here.1 (scan_sound true at part text b) (scan_at front at part text b is (in_string_at (name ms place) front part text fs runs) valid here.0)
step_by_at front at m.FirstName fs b is valid runs here =
    branch_at front b (is_blank b) (to m.FirstName fs) _ (λ _. tt) (branch_at front b (b == 125) (to (m.After (j.Object [])) fs) _ (λ _. tt) (branch_at front b (b == 34) (to (m.Naming [] at p.Plain []) fs) (Err e.Syntax)
    (λ h. quote_at front at b [] fs is (at_name_of front (record { mode = m.FirstName; frames = fs }) _ runs (first_name_runs (length front) fs)) (eqb-true _ _ h)) tt))
step_by_at front at (m.NextName ms) fs b is valid runs here =
    branch_at front b (is_blank b) (to (m.NextName ms) fs) _ (λ _. tt) (branch_at front b (b == 34) (to (m.Naming ms at p.Plain []) fs) (Err e.Syntax)
    (λ h. quote_at front at b ms fs is (at_name_of front (record { mode = m.NextName ms; frames = fs }) _ runs (next_name_runs (length front) fs ms)) (eqb-true _ _ h)) tt)
step_by_at front at _ fs b is valid runs here = grind (arith, nat_tests)

step_at : (front : List ℕ) (x : ReaderState) (b : ℕ) → run (step lone) front 0 start ≡ Ok x → ModeAt x.mode front → OutcomeAt front b (step lone (length front) x b)
unfolding step
step_at front x b runs here = step_by_at front (length front) x.mode x.frames b refl (runs_valid lone front x runs) runs here

-- a run to its end, with what stands there
run_at : (ts done : List ℕ) (x y : ReaderState) → run (step lone) done 0 start ≡ Ok x → ModeAt x.mode done → run (step lone) ts (length done) x ≡ Ok y → ModeAt y.mode (done ++ ts)
unfolding run
run_at [] done x y so_far here e = subst (λ (k : List ℕ). ModeAt y.mode k) (sym (append-nil done)) (subst (λ (k : ReaderState). ModeAt k.mode done) (ok_is x y e) here)
run_at (t ∷ ts) done x y so_far here e = go (step lone (length done) x t) refl (step_at done x t so_far here) e (λ mid now there h. run_at ts (done ++ (t ∷ [])) mid y now there h)
  where
    next_is : length (done ++ (t ∷ [])) ≡ length done + 1
    next_is = length-append done (t ∷ [])

    go : (o : Stepped) → step lone (length done) x t ≡ o → OutcomeAt done t o → on_step (step lone) (length done) o (run (step lone) ts (length done + 1)) ≡ Ok y
        → ((mid : ReaderState) → run (step lone) (done ++ (t ∷ [])) 0 start ≡ Ok mid → ModeAt mid.mode (done ++ (t ∷ [])) → run (step lone) ts (length (done ++ (t ∷ []))) mid ≡ Ok y → ModeAt y.mode ((done ++ (t ∷ [])) ++ ts)) → ModeAt y.mode (done ++ (t ∷ ts))
    go (Ok mid) same there e tail =
        subst (λ (k : List ℕ). ModeAt y.mode k) (append_assoc done (t ∷ []) ts)
        (tail mid (run_both (step lone) done (t ∷ []) 0 start x so_far ∙ (ap (λ (n : ℕ). run (step lone) (t ∷ []) n x) (omega arith) ∙ single lone t (length done) x mid same)) there (ap (λ (n : ℕ). run (step lone) ts n mid) next_is ∙ e))
    go (Err why) same there e tail = absurd cc

-- what stands where the byte is refused
pub refused_at : (front : List ℕ) (t : ℕ) (x : ReaderState) (why : Refusal) → run (step lone) front 0 start ≡ Ok x → step lone (length front) x t ≡ Err why → OutcomeAt front t (Err why)
unfolding run
refused_at front t x why reaches stops = subst (OutcomeAt front t) stops (step_at front x t reaches (run_at front [] start x refl tt reaches))
