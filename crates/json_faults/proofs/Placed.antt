-- From what stands in a text follows the part of a string in which the reader stands, and why it refuses a byte.
use Rattle.std.proofs.Common.{◌≡◌, ℕ, suc, ◌+◌, ◌<◌, Bool, true, false, List, [], ◌∷◌, ◌++◌, length, Some, Ok, Err, refl, sym, ap, subst, ◌∙◌, arith, length-append, inl, inr}
use Rattle.std.specs.Prelude.{codes}
use Rattle.std.proofs.lemmas.Bool.{cond-false, cond-true}
use Rattle.std.proofs.lemmas.Bool.Decides.{nat_tests}
use Rattle.json_machine.specs.Refusal.{Refusal}
use Rattle.json_machine.specs.Refusal as e
use Rattle.json_machine.specs.Mode.{Mode}
use Rattle.json_machine.specs.Part.{Part}
use Rattle.json_machine.specs.Part as p
use Rattle.json_machine.specs.Progress as s
use Rattle.json_machine.specs.declared.begun.Tail.{Tail}
use Rattle.json_machine.specs.declared.begun.Tail.TheVariants as tails
use Rattle.json_value.specs.Strings.{within}
use Rattle.json_faults.specs.Faults.{lone, InString, SequenceAt}
use Rattle.json_machine.specs.Left.{Tails}
use Rattle.json_machine.specs.Scan.{Scanned, lead, scan, escape_scan, hex_scan, slash_scan, letter_scan, low_scan, wide_scan, wide_next, tail_low, tail_high}
use Rattle.exact_read.specs.Steps.{run}
use Rattle.json_machine.specs.Machine.{Frames, ReaderState, step, start}
use Rattle.exact_read.proofs.Machines.{ok_is, err_is, differ, run_one, run_split}
use Rattle.json_faults.proofs.Viable.{runs_valid, viable_after}
use Rattle.json_machine.proofs.Wides.{wide_tails}
use Rattle.json_machine.proofs.TextsGo.{IsPart, heads, lead_big, wide_steps}
use Rattle.json_machine.proofs.Whole.{Valid}
use Rattle.json_machine.proofs.Complete.{IsValid}
use Rattle.json_faults.proofs.Inside.{Inner, value, name, inside, in_string, in_by, goes_inside, refused_inside, never, step_inside}

-- the state in a string
abbrev pub Stand : Inner → Part → List ℕ → Frames → ReaderState
Stand inner part text fs = record { mode = inside inner part text; frames = fs }

-- a state that stands in a string
pub record Standing (P : Part → Type 0) (x : ReaderState) : Type 0 where
  pub inner : Inner
  pub part : Part
  pub text : List ℕ
  pub is : x ≡ Stand inner part text x.frames
  pub holds : P part

part_valid : (inner : Inner) (part : Part) (text : List ℕ) → IsValid (inside inner part text) → IsPart part
part_valid value part text h = h
part_valid (name ms place) part text h = h

pub standing_valid : (inner : Inner) (part : Part) (text : List ℕ) (x : ReaderState) → x ≡ Stand inner part text x.frames → Valid x → IsPart part
standing_valid inner part text x is valid = part_valid inner part text (subst Valid is valid)

-- what is read from such a state
one_inside : (inner : Inner) (at : ℕ) (part : Part) (text : List ℕ) (fs : Frames) (b : ℕ) (o : Scanned) (y : ReaderState) → scan true at part text b ≡ o → step lone at (Stand inner part text fs) b ≡ Ok y → in_by inner fs o ≡ Ok y
one_inside inner at part text fs b o y is stepped = ap (in_by inner fs) (sym is) ∙ (sym (step_inside inner at part text fs b) ∙ stepped)

pub goes_to : (inner : Inner) (at : ℕ) (part part' : Part) (text text' : List ℕ) (fs : Frames) (b : ℕ) (y : ReaderState) → scan true at part text b ≡ Ok (s.More part' text') → step lone at (Stand inner part text fs) b ≡ Ok y → y ≡ Stand inner part' text' fs
goes_to inner at part part' text text' fs b y is stepped = ok_is y (Stand inner part' text' fs) (sym (one_inside inner at part text fs b (Ok (s.More part' text')) y is stepped) ∙ goes_inside inner fs part' text')

pub stops_at : (inner : Inner) (at : ℕ) (part : Part) (text : List ℕ) (fs : Frames) (b : ℕ) (why : Refusal) (y : ReaderState) → scan true at part text b ≡ Err why → step lone at (Stand inner part text fs) b ≡ Ok y → ⊥
stops_at inner at part text fs b why y is stepped = never why inner fs (Err why) y refl (one_inside inner at part text fs b (Err why) y is stepped)

pub refuses_by : (inner : Inner) (at : ℕ) (part : Part) (text : List ℕ) (fs : Frames) (b : ℕ) (why r : Refusal) → scan true at part text b ≡ Err why → step lone at (Stand inner part text fs) b ≡ Err r → r ≡ why
refuses_by inner at part text fs b why r is stepped = err_is {S = ReaderState} r why (sym stepped ∙ (step_inside inner at part text fs b ∙ (ap (in_by inner fs) is ∙ refused_inside inner fs why)))

pub goes_on_not : (inner : Inner) (at : ℕ) (part part' : Part) (text text' : List ℕ) (fs : Frames) (b : ℕ) (r : Refusal) → scan true at part text b ≡ Ok (s.More part' text') → step lone at (Stand inner part text fs) b ≡ Err r → ⊥
goes_on_not inner at part part' text text' fs b r is stepped = differ (sym (goes_inside inner fs part' text') ∙ (ap (in_by inner fs) (sym is) ∙ (sym (step_inside inner at part text fs b) ∙ stepped)))

pub run_to : (inner : Inner) (at : ℕ) (part part' : Part) (text text' : List ℕ) (fs : Frames) (b : ℕ) (rest : List ℕ) (z : ReaderState) → scan true at part text b ≡ Ok (s.More part' text') → run (step lone) (b ∷ rest) at (Stand inner part text fs) ≡ Ok z
    → run (step lone) rest (at + 1) (Stand inner part' text' fs) ≡ Ok z
run_to inner at part part' text text' fs b rest z is runs =
    let one = run_one (step lone) b rest at (Stand inner part text fs) z runs in
    ap (λ (k : ReaderState). run (step lone) rest (at + 1) k) (sym (goes_to inner at part part' text text' fs b one.0 is one.1)) ∙ one.2

-- ---- between two characters of a string

abbrev IsPlainPart : Part → Type 0
IsPlainPart part = part ≡ p.Plain

wide_refuses : (at place : ℕ) (tail : Tail) (text : List ℕ) (b : ℕ) → within (tail_low tail) (tail_high tail) b ≡ false → scan true at (p.Wide place tail) text b ≡ Err (e.Malformed place)
unfolding scan wide_scan
wide_refuses at place tail text b is = cond-false (within (tail_low tail) (tail_high tail) b) _ _ is

wide_accepts : (at place : ℕ) (tail : Tail) (text : List ℕ) (b : ℕ) → within (tail_low tail) (tail_high tail) b ≡ true → scan true at (p.Wide place tail) text b ≡ Ok (s.More (wide_next place tail) (text ++ b ∷ []))
unfolding scan wide_scan
wide_accepts at place tail text b is = cond-true (within (tail_low tail) (tail_high tail) b) _ _ is

-- where a backslash and a blank may stand, a character may begin
plain_part : (inner : Inner) (at : ℕ) (part : Part) (text : List ℕ) (fs : Frames) (y z : ReaderState) → IsPart part → step lone at (Stand inner part text fs) 92 ≡ Ok y → step lone at (Stand inner part text fs) 32 ≡ Ok z → part ≡ p.Plain
unfolding step scan escape_scan hex_scan slash_scan letter_scan low_scan wide_scan
plain_part inner at part text fs y z valid slash blank = grind (arith, nat_tests)

pub plain_standing : (before : List ℕ) (x : ReaderState) → InString before → run (step lone) before 0 start ≡ Ok x → Standing IsPlainPart x
unfolding step
plain_standing before x viable is =
    let blank = viable_after lone before (codes " ") x is viable.0 in
    let slash = viable_after lone before (92 ∷ []) x is viable.1 in
    let y = run_one (step lone) 92 [] (length before) x slash.0 slash.1 in
    let z = run_one (step lone) 32 [] (length before) x blank.0 blank.1 in
    let k = in_string 92 (inr refl) (length before) x.mode x.frames y.0 y.1 in
    let stands : x ≡ Stand k.inner k.part k.text x.frames = ap (λ (m : Mode). record { mode = m; frames = x.frames }) k.is in
    record {
      inner = k.inner;
      part = k.part;
      text = k.text;
      is = stands;
      holds = plain_part k.inner (length before) k.part k.text x.frames y.0 z.0 (standing_valid k.inner k.part k.text x stands (runs_valid lone before x is))
          (ap (λ (m : ReaderState). step lone (length before) m 92) (sym stands) ∙ y.1) (ap (λ (m : ReaderState). step lone (length before) m 32) (sym stands) ∙ z.1);
    }

-- ---- within a character of several bytes

abbrev pub IsWideAt : ℕ → Part → Type 0
IsWideAt place (p.Wide at tail) = at ≡ place
IsWideAt place _ = ⊥

-- the first byte of such a character is read between two characters alone
begins_wide : (inner : Inner) (at : ℕ) (part : Part) (text : List ℕ) (fs : Frames) (b : ℕ) (tail : Tail) (y : ReaderState) → IsPart part → lead b ≡ Some tail → step lone at (Stand inner part text fs) b ≡ Ok y → y ≡ Stand inner (p.Wide at tail) (text ++ b ∷ []) fs
unfolding step scan escape_scan hex_scan slash_scan letter_scan low_scan wide_scan
begins_wide inner at p.Plain text fs b tail y valid is stepped = goes_to inner at p.Plain (p.Wide at tail) text (text ++ b ∷ []) fs b y (wide_steps at text b tail is) stepped
begins_wide inner at _ text fs b tail y valid is stepped = absurd (grind (arith, nat_tests))

-- how many bytes are to come
abbrev size : Tail → ℕ
size (tails.One lo hi) = 1
size (tails.Two lo hi) = 2
size (tails.Three lo hi) = 3

one_size : (low high : ℕ) (l u w : List ℕ) → Tails (tails.One low high) l u w → length u ≡ 1
one_size low high l u w ts =
    let made : u ≡ ts.byte ∷ [] = ts.made ∙ ap (λ (k : List ℕ). ts.byte ∷ k) ts.onward.0 in
    ap length made

two_size : (low high : ℕ) (l u w : List ℕ) → Tails (tails.Two low high) l u w → length u ≡ 2
two_size low high l u w ts = ap length ts.made ∙ ap suc (one_size 128 191 l ts.others ts.after ts.onward)

tails_size : (tail : Tail) (l u w : List ℕ) → Tails tail l u w → length u ≡ size tail
tails_size (tails.One lo hi) l u w ts = one_size lo hi l u w ts
tails_size (tails.Two lo hi) l u w ts = two_size lo hi l u w ts
tails_size (tails.Three lo hi) l u w ts = ap length ts.made ∙ ap suc (two_size 128 191 l ts.others ts.after ts.onward)

wide_goes : (inner : Inner) (at place : ℕ) (tail : Tail) (text : List ℕ) (fs : Frames) (b : ℕ) (y : ReaderState) → step lone at (Stand inner (p.Wide place tail) text fs) b ≡ Ok y → y ≡ Stand inner (wide_next place tail) (text ++ b ∷ []) fs
unfolding step scan wide_scan
wide_goes inner at place tail text fs b y stepped = grind (arith, nat_tests)

stays_wide : (inner : Inner) (others : List ℕ) (at place : ℕ) (tail : Tail) (text : List ℕ) (fs : Frames) (z : ReaderState) → length others < size tail → run (step lone) others at (Stand inner (p.Wide place tail) text fs) ≡ Ok z → Standing (IsWideAt place) z
unfolding run
stays_wide inner [] at place tail text fs z lt runs = subst (Standing (IsWideAt place)) (ok_is (Stand inner (p.Wide place tail) text fs) z runs) (record { inner = inner; part = p.Wide place tail; text = text; is = refl; holds = refl })
stays_wide inner (b ∷ others) at place (tails.One lo hi) text fs z lt runs = absurd (omega arith)
stays_wide inner (b ∷ others) at place (tails.Two lo hi) text fs z lt runs =
    let one = run_one (step lone) b others at (Stand inner (p.Wide place (tails.Two lo hi)) text fs) z runs in
    let next = wide_goes inner at place (tails.Two lo hi) text fs b one.0 one.1 in
    stays_wide inner others (at + 1) place (tails.One 128 191) (text ++ b ∷ []) fs z (omega arith) (ap (λ (k : ReaderState). run (step lone) others (at + 1) k) (sym next) ∙ one.2)
stays_wide inner (b ∷ others) at place (tails.Three lo hi) text fs z lt runs =
    let one = run_one (step lone) b others at (Stand inner (p.Wide place (tails.Three lo hi)) text fs) z runs in
    let next = wide_goes inner at place (tails.Three lo hi) text fs b one.0 one.1 in
    stays_wide inner others (at + 1) place (tails.Two 128 191) (text ++ b ∷ []) fs z (omega arith) (ap (λ (k : ReaderState). run (step lone) others (at + 1) k) (sym next) ∙ one.2)

pub sequence_standing : (place : ℕ) (front : List ℕ) (x : ReaderState) → SequenceAt place front → run (step lone) front 0 start ≡ Ok x → Standing (IsWideAt place) x
unfolding step
sequence_standing place front x at is =
    let m = wide_tails (at.first ∷ (at.others ++ (at.missing ∷ at.more))) at.is_wide in
    let h = heads at.first m.first (at.others ++ (at.missing ∷ at.more)) m.others m.parts in
    let led : lead at.first ≡ Some m.tail = ap lead h.0 ∙ m.is in
    let big = lead_big at.first m.tail led in
    let parts = run_split (step lone) at.before (at.first ∷ at.others) 0 start x (ap (λ (k : List ℕ). run (step lone) k 0 start) (sym at.parts) ∙ is) in
    let one = run_one (step lone) at.first at.others (0 + length at.before) parts.0 x parts.2 in
    let k = in_string at.first (inl big) (0 + length at.before) parts.0.mode parts.0.frames one.0 one.1 in
    let stands : parts.0 ≡ Stand k.inner k.part k.text parts.0.frames = ap (λ (m : Mode). record { mode = m; frames = parts.0.frames }) k.is in
    let valid = standing_valid k.inner k.part k.text parts.0 stands (runs_valid lone at.before parts.0 parts.1) in
    let next = begins_wide k.inner (0 + length at.before) k.part k.text parts.0.frames at.first m.tail one.0 valid led (ap (λ (s : ReaderState). step lone (0 + length at.before) s at.first) (sym stands) ∙ one.1) in
    let long : length (at.others ++ (at.missing ∷ at.more)) ≡ size m.tail = ap length h.1 ∙ tails_size m.tail [] m.others (m.others ++ []) (m.tails []) in
    let fewer : length at.others < size m.tail = omega (arith, long, length-append at.others (at.missing ∷ at.more)) in
    let stays = stays_wide k.inner at.others (0 + length at.before + 1) (0 + length at.before) m.tail (k.text ++ at.first ∷ []) parts.0.frames x fewer (ap (λ (s : ReaderState). run (step lone) at.others (0 + length at.before + 1) s) (sym next) ∙ one.2) in
    subst (λ (n : ℕ). Standing (IsWideAt n) x) (omega (arith, at.place_is)) stays

pub wide_refusal : (place at : ℕ) (x : ReaderState) (b : ℕ) (r : Refusal) → Standing (IsWideAt place) x → step lone at x b ≡ Err r → r ≡ e.Malformed place
wide_refusal place at x b r k stepped = by_part k.part k.holds k.is
  where
    by_part : (part : Part) → IsWideAt place part → x ≡ Stand k.inner part k.text x.frames → r ≡ e.Malformed place
    by_part (p.Wide n tail) holds is = by_test (within (tail_low tail) (tail_high tail) b) refl
      where
        here : step lone at (Stand k.inner (p.Wide n tail) k.text x.frames) b ≡ Err r
        here = ap (λ (s : ReaderState). step lone at s b) (sym is) ∙ stepped

        by_test : (t : Bool) → within (tail_low tail) (tail_high tail) b ≡ t → r ≡ e.Malformed place
        by_test false no_fit = refuses_by k.inner at (p.Wide n tail) k.text x.frames b (e.Malformed n) r (wide_refuses at n tail k.text b no_fit) here ∙ ap (λ (m : ℕ). e.Malformed m) holds
        by_test true fits = absurd (goes_on_not k.inner at (p.Wide n tail) (wide_next n tail) k.text (k.text ++ b ∷ []) x.frames b r (wide_accepts at n tail k.text b fits) here)
    by_part _ holds is = absurd holds
