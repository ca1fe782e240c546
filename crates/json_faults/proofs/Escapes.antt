-- From what stands in a text of an escaped surrogate follows where the reader stands, and that the next byte is refused for it.
use Rattle.std.proofs.Common.{◌≡◌, ℕ, suc, ◌+◌, ◌<◌, Bool, true, false, cond, List, [], ◌∷◌, ◌++◌, length, Option, Some, None, Ok, Err, refl, sym, ap, subst, ◌∙◌, arith, append_assoc, length-append}
use Rattle.std.specs.Prelude.{◌==◌, ◌&&◌, encode_utf8}
use Rattle.std.proofs.lemmas.Bool.{cond-false, cond-true, false_from_ne_true}
use Rattle.json_machine.specs.Refusal.{Refusal}
use Rattle.json_machine.specs.Refusal as e
use Rattle.json_machine.specs.Part.{Part}
use Rattle.json_machine.specs.Part as p
use Rattle.json_machine.specs.Progress as s
use Rattle.json_machine.specs.Quad.{Quad}
use Rattle.json_machine.specs.Quad as q
use Rattle.json_value.specs.Strings.{hex_digit, is_high, is_low, four_digits, join, IsUnit, digits}
use Rattle.json_faults.specs.Faults.{lone, InString, HighAt, LowAt}
use Rattle.json_machine.specs.Scan.{Scanned, with, scan, plain_scan, escape_scan, unit_scan, hex_by, slash_scan, letter_scan, may_be_low, pair_scan, low_scan, low_by}
use Rattle.exact_read.specs.Steps.{run}
use Rattle.json_machine.specs.Machine.{Frames, ReaderState, step, start}
use Rattle.exact_read.proofs.Machines.{ok_is, run_one, run_split}
use Rattle.json_machine.proofs.TextsGo.{heads, digit_steps, high_not_low}
use Rattle.json_faults.proofs.Inside.{Inner}
use Rattle.json_faults.proofs.Placed.{Stand, Standing, refuses_by, goes_on_not, run_to, stops_at, plain_standing}

-- the scans of an escape
slash_scans : (at : ℕ) (text : List ℕ) → scan true at p.Plain text 92 ≡ Ok (s.More (p.Escape at) text)
unfolding scan plain_scan
slash_scans at text = refl

u_scans : (at place : ℕ) (text : List ℕ) → scan true at (p.Escape place) text 117 ≡ Ok (s.More (p.Hex place q.Nothing) text)
unfolding scan escape_scan
u_scans at place text = refl

hex_scans : (at place : ℕ) (quad : Quad) (text : List ℕ) (b d : ℕ) → hex_digit b ≡ Some d → scan true at (p.Hex place quad) text b ≡ hex_by place quad text (Some d)
unfolding scan
hex_scans at place quad text b d is = digit_steps true place quad text b d is

high_scans : (place : ℕ) (text : List ℕ) (u : ℕ) → is_high u ≡ true → unit_scan place text u ≡ Ok (s.More (p.Slash place u) text)
unfolding unit_scan
high_scans place text u hi = cond-true (is_high u) _ _ hi

low_scans : (place : ℕ) (text : List ℕ) (u : ℕ) → is_low u ≡ true → unit_scan place text u ≡ Err (e.Surrogate place)
unfolding unit_scan
low_scans place text u lo = cond-false (is_high u) _ _ (false_from_ne_true (is_high u) (λ hi. high_not_low u hi lo)) ∙ cond-true (is_low u) _ _ lo

-- through `\u` and three digits
three_read : (inner : Inner) (at : ℕ) (text : List ℕ) (fs : Frames) (a b c x y z : ℕ) (rest : List ℕ) (end : ReaderState) → hex_digit x ≡ Some a → hex_digit y ≡ Some b → hex_digit z ≡ Some c
    → run (step lone) (92 ∷ (117 ∷ (x ∷ (y ∷ (z ∷ rest))))) at (Stand inner p.Plain text fs) ≡ Ok end → run (step lone) rest (at + 1 + 1 + 1 + 1 + 1) (Stand inner (p.Hex at (q.Three a b c)) text fs) ≡ Ok end
three_read inner at text fs a b c x y z rest end hx hy hz runs =
    let one = run_to inner at p.Plain (p.Escape at) text text fs 92 (117 ∷ (x ∷ (y ∷ (z ∷ rest)))) end (slash_scans at text) runs in
    let two = run_to inner (at + 1) (p.Escape at) (p.Hex at q.Nothing) text text fs 117 (x ∷ (y ∷ (z ∷ rest))) end (u_scans (at + 1) at text) one in
    let three = run_to inner (at + 1 + 1) (p.Hex at q.Nothing) (p.Hex at (q.One a)) text text fs x (y ∷ (z ∷ rest)) end (hex_scans (at + 1 + 1) at q.Nothing text x a hx) two in
    let four = run_to inner (at + 1 + 1 + 1) (p.Hex at (q.One a)) (p.Hex at (q.Two a b)) text text fs y (z ∷ rest) end (hex_scans (at + 1 + 1 + 1) at (q.One a) text y b hy) three in
    run_to inner (at + 1 + 1 + 1 + 1) (p.Hex at (q.Two a b)) (p.Hex at (q.Three a b c)) text text fs z rest end (hex_scans (at + 1 + 1 + 1 + 1) at (q.Two a b) text z c hz) four

-- ---- a high surrogate waits for a low one

abbrev pub IsWaiting : ℕ → Part → Type 0
IsWaiting place (p.Slash at high) = at ≡ place
IsWaiting place (p.Letter at high) = at ≡ place
IsWaiting place (p.Low at high quad) = at ≡ place
IsWaiting place _ = ⊥

-- how many bytes of the low one are to come
abbrev waits_for : Part → ℕ
waits_for (p.Slash at high) = 6
waits_for (p.Letter at high) = 5
waits_for (p.Low at high q.Nothing) = 4
waits_for (p.Low at high (q.One a)) = 3
waits_for (p.Low at high (q.Two a b)) = 2
waits_for (p.Low at high (q.Three a b c)) = 1
waits_for _ = 0

-- what the scan of a part that waits is: it waits on, the pair is whole, or its place is refused
data Waiting (place : ℕ) (part : Part) (text : List ℕ) : Scanned → Type 0 where
  waits : (part' : Part) → IsWaiting place part' → suc (waits_for part') ≡ waits_for part → Waiting place part text (Ok (s.More part' text))
  whole : (more : List ℕ) → waits_for part ≡ 1 → Waiting place part text (with text more)
  refused : Waiting place part text (Err (e.Surrogate place))

waiting_branch : (place : ℕ) (part : Part) (text : List ℕ) (t : Bool) (x y : Scanned) → Waiting place part text x → Waiting place part text y → Waiting place part text (cond t x y)
waiting_branch place part text true x y h k = h
waiting_branch place part text false x y h k = k

low_waiting : (at high : ℕ) (quad : Quad) (text : List ℕ) (b : ℕ) → Waiting at (p.Low at high quad) text (low_scan at high quad text b)
unfolding low_scan pair_scan
low_waiting at high quad text b = by_digit quad (hex_digit b)
  where
    by_digit : (quad : Quad) (o : Option ℕ) → Waiting at (p.Low at high quad) text (low_by at high quad text o)
    by_digit quad None = refused
    by_digit q.Nothing (Some d) = waiting_branch at (p.Low at high q.Nothing) text (may_be_low (q.One d)) _ _ (waits (p.Low at high (q.One d)) refl refl) refused
    by_digit (q.One a) (Some d) = waiting_branch at (p.Low at high (q.One a)) text (may_be_low (q.Two a d)) _ _ (waits (p.Low at high (q.Two a d)) refl refl) refused
    by_digit (q.Two a c) (Some d) = waiting_branch at (p.Low at high (q.Two a c)) text (may_be_low (q.Three a c d)) _ _ (waits (p.Low at high (q.Three a c d)) refl refl) refused
    by_digit (q.Three a c k) (Some d) =
        waiting_branch at (p.Low at high (q.Three a c k)) text (is_high high && is_low (four_digits a c k d)) _ _ (whole (encode_utf8 (join high (four_digits a c k d))) refl) refused

scan_waiting : (place at : ℕ) (part : Part) (text : List ℕ) (b : ℕ) → IsWaiting place part → Waiting place part text (scan true at part text b)
unfolding scan slash_scan letter_scan
scan_waiting place at (p.Slash n high) text b holds = subst (λ (m : ℕ). Waiting m (p.Slash n high) text (cond (b == 92) (Ok (s.More (p.Letter n high) text)) (Err (e.Surrogate n)))) holds
    (waiting_branch n (p.Slash n high) text (b == 92) _ _ (waits (p.Letter n high) refl refl) refused)
scan_waiting place at (p.Letter n high) text b holds = subst (λ (m : ℕ). Waiting m (p.Letter n high) text (cond (b == 117) (Ok (s.More (p.Low n high q.Nothing) text)) (Err (e.Surrogate n)))) holds
    (waiting_branch n (p.Letter n high) text (b == 117) _ _ (waits (p.Low n high q.Nothing) refl refl) refused)
scan_waiting place at (p.Low n high quad) text b holds = subst (λ (m : ℕ). Waiting m (p.Low n high quad) text (low_scan n high quad text b)) holds (low_waiting n high quad text b)
scan_waiting place at _ text b holds = absurd holds

stays_waiting : (inner : Inner) (others : List ℕ) (at place : ℕ) (part : Part) (text : List ℕ) (fs : Frames) (z : ReaderState) → IsWaiting place part → length others < waits_for part
    → run (step lone) others at (Stand inner part text fs) ≡ Ok z → Standing (IsWaiting place) z
unfolding run
stays_waiting inner [] at place part text fs z holds lt runs = subst (Standing (IsWaiting place)) (ok_is (Stand inner part text fs) z runs) (record { inner = inner; part = part; text = text; is = refl; holds = holds })
stays_waiting inner (b ∷ others) at place part text fs z holds lt runs = by_scan (scan true at part text b) refl (scan_waiting place at part text b holds) (λ part' h k r. stays_waiting inner others (at + 1) place part' text fs z h k r)
  where
    by_scan : (o : Scanned) → scan true at part text b ≡ o → Waiting place part text o
        → ((part' : Part) → IsWaiting place part' → length others < waits_for part' → run (step lone) others (at + 1) (Stand inner part' text fs) ≡ Ok z → Standing (IsWaiting place) z) → Standing (IsWaiting place) z
    by_scan _ is (waits part' h count) tail = tail part' h (omega (arith, count, lt)) (run_to inner at part part' text text fs b others z is runs)
    by_scan _ is (whole more count) tail = absurd (omega (arith, count, lt))
    by_scan _ is refused tail =
        let one = run_one (step lone) b others at (Stand inner part text fs) z runs in
        absurd (stops_at inner at part text fs b (e.Surrogate place) one.0 is one.1)

unit_length : (u : ℕ) (ds : List ℕ) → IsUnit u ds → length ds ≡ 4
unit_length _ _ (digits a b c d x y z w hx hy hz hw) = refl

high_read : (inner : Inner) (at : ℕ) (text : List ℕ) (fs : Frames) (u : ℕ) (ds rest : List ℕ) (end : ReaderState) → IsUnit u ds → is_high u ≡ true
    → run (step lone) (92 ∷ (117 ∷ (ds ++ rest))) at (Stand inner p.Plain text fs) ≡ Ok end → run (step lone) rest (at + 1 + 1 + 1 + 1 + 1 + 1) (Stand inner (p.Slash at u) text fs) ≡ Ok end
high_read inner at text fs _ _ rest end (digits a b c d x y z w hx hy hz hw) hi runs =
    let three = three_read inner at text fs a b c x y z (w ∷ rest) end hx hy hz runs in
    run_to inner (at + 1 + 1 + 1 + 1 + 1) (p.Hex at (q.Three a b c)) (p.Slash at (four_digits a b c d)) text text fs w rest end
    (hex_scans (at + 1 + 1 + 1 + 1 + 1) at (q.Three a b c) text w d hw ∙ high_scans at text (four_digits a b c d) hi) three

pub high_standing : (place : ℕ) (front : List ℕ) (x : ReaderState) → HighAt place front → run (step lone) front 0 start ≡ Ok x → Standing (IsWaiting place) x
high_standing place front x at is =
    let parts = run_split (step lone) at.before (92 ∷ (117 ∷ (at.digits ++ at.others))) 0 start x (ap (λ (k : List ℕ). run (step lone) k 0 start) (sym at.parts) ∙ is) in
    let k = plain_standing at.before parts.0 at.in_string parts.1 in
    let stands : parts.0 ≡ Stand k.inner p.Plain k.text parts.0.frames = k.is ∙ ap (λ (m : Part). Stand k.inner m k.text parts.0.frames) k.holds in
    let n : ℕ = 0 + length at.before in
    let there = high_read k.inner n k.text parts.0.frames at.unit at.digits at.others x at.is_unit at.high (ap (λ (m : ReaderState). run (step lone) (92 ∷ (117 ∷ (at.digits ++ at.others))) n m) (sym stands) ∙ parts.2) in
    let long : length (at.others ++ (at.missing ∷ at.more)) ≡ suc (suc 4) = ap length at.begun ∙ ap (λ (m : ℕ). suc (suc m)) (unit_length at.low at.low_digits at.is_low_unit) in
    let fewer : length at.others < 6 = omega (arith, long, length-append at.others (at.missing ∷ at.more)) in
    stays_waiting k.inner at.others (n + 1 + 1 + 1 + 1 + 1 + 1) place (p.Slash n at.unit) k.text parts.0.frames x (omega (arith, at.place_is)) fewer there

pub waiting_refusal : (place at : ℕ) (x : ReaderState) (b : ℕ) (r : Refusal) → Standing (IsWaiting place) x → step lone at x b ≡ Err r → r ≡ e.Surrogate place
waiting_refusal place at x b r k stepped = by_scan (scan true at k.part k.text b) refl (scan_waiting place at k.part k.text b k.holds)
  where
    here : step lone at (Stand k.inner k.part k.text x.frames) b ≡ Err r
    here = ap (λ (s : ReaderState). step lone at s b) (sym k.is) ∙ stepped

    by_scan : (o : Scanned) → scan true at k.part k.text b ≡ o → Waiting place k.part k.text o → r ≡ e.Surrogate place
    by_scan _ is (waits part' h count) = absurd (goes_on_not k.inner at k.part part' k.text k.text x.frames b r is here)
    by_scan _ is (whole more count) = absurd (goes_on_not k.inner at k.part p.Plain k.text (k.text ++ more) x.frames b r is here)
    by_scan _ is refused = refuses_by k.inner at k.part k.text x.frames b (e.Surrogate place) r is here

-- ---- a low surrogate outside a pair

pub no_end : (xs : List ℕ) (x : ℕ) → xs ++ (x ∷ []) ≡ [] → ⊥
no_end [] x h = cc
no_end (k ∷ xs) x h = cc

pub last_is : (xs ys : List ℕ) (x y : ℕ) → xs ++ (x ∷ []) ≡ ys ++ (y ∷ []) → (xs ≡ ys) × (x ≡ y)
last_is [] [] x y same = (refl, (heads x y [] [] same).0)
last_is [] (k ∷ ys) x y same = absurd (no_end ys y (sym (heads x k [] (ys ++ (y ∷ [])) same).1))
last_is (k ∷ xs) [] x y same = absurd (no_end xs x (heads k y (xs ++ (x ∷ [])) [] same).1)
last_is (k ∷ xs) (m ∷ ys) x y same =
    let h = heads k m (xs ++ (x ∷ [])) (ys ++ (y ∷ [])) same in
    let others = last_is xs ys x y h.1 in
    (ap (λ (n : ℕ). n ∷ xs) h.0 ∙ ap (λ (zs : List ℕ). m ∷ zs) others.0, others.1)

pub nothing_read : (at : ℕ) (x y : ReaderState) → run (step lone) [] at x ≡ Ok y → x ≡ y
unfolding run
nothing_read at x y is = ok_is x y is

low_read : (place : ℕ) (before front : List ℕ) (b u : ℕ) (ds : List ℕ) (x : ReaderState) (r : Refusal) → IsUnit u ds → is_low u ≡ true → front ++ (b ∷ []) ≡ before ++ (92 ∷ (117 ∷ ds)) → length before ≡ place → InString before
    → run (step lone) front 0 start ≡ Ok x → step lone (length front) x b ≡ Err r → r ≡ e.Surrogate place
low_read place before front b _ _ x r (digits a c d k x1 x2 x3 x4 h1 h2 h3 h4) lo cut is viable runs stepped =
    let last = last_is front (before ++ (92 ∷ (117 ∷ (x1 ∷ (x2 ∷ (x3 ∷ [])))))) b x4 (cut ∙ sym (append_assoc before (92 ∷ (117 ∷ (x1 ∷ (x2 ∷ (x3 ∷ []))))) (x4 ∷ []))) in
    let parts = run_split (step lone) before (92 ∷ (117 ∷ (x1 ∷ (x2 ∷ (x3 ∷ []))))) 0 start x (ap (λ (m : List ℕ). run (step lone) m 0 start) (sym last.0) ∙ runs) in
    let s = plain_standing before parts.0 viable parts.1 in
    let stands : parts.0 ≡ Stand s.inner p.Plain s.text parts.0.frames = s.is ∙ ap (λ (m : Part). Stand s.inner m s.text parts.0.frames) s.holds in
    let n : ℕ = 0 + length before in
    let here_is : 0 + length before ≡ place = omega (arith, is) in
    let there = three_read s.inner n s.text parts.0.frames a c d x1 x2 x3 [] x h1 h2 h3 (ap (λ (m : ReaderState). run (step lone) (92 ∷ (117 ∷ (x1 ∷ (x2 ∷ (x3 ∷ []))))) n m) (sym stands) ∙ parts.2) in
    let reached : Stand s.inner (p.Hex n (q.Three a c d)) s.text parts.0.frames ≡ x = nothing_read (n + 1 + 1 + 1 + 1 + 1) (Stand s.inner (p.Hex n (q.Three a c d)) s.text parts.0.frames) x there in
    let here : step lone (length front) (Stand s.inner (p.Hex n (q.Three a c d)) s.text parts.0.frames) x4 ≡ Err r =
    ap (λ (m : ReaderState). step lone (length front) m x4) reached ∙ (ap (λ (m : ℕ). step lone (length front) x m) (sym last.1) ∙ stepped) in
    refuses_by s.inner (length front) (p.Hex n (q.Three a c d)) s.text parts.0.frames x4 (e.Surrogate n) r (hex_scans (length front) n (q.Three a c d) s.text x4 k h4 ∙ low_scans n s.text (four_digits a c d k) lo) here
    ∙ ap (λ (m : ℕ). e.Surrogate m) here_is

pub low_refusal : (place : ℕ) (front : List ℕ) (b : ℕ) (x : ReaderState) (r : Refusal) → LowAt place (front ++ (b ∷ [])) → run (step lone) front 0 start ≡ Ok x → step lone (length front) x b ≡ Err r → r ≡ e.Surrogate place
low_refusal place front b x r at runs stepped = low_read place at.before front b at.unit at.digits x r at.is_unit at.low at.parts at.place_is at.in_string runs stepped
