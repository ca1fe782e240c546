-- What the looks of a request found is what its receipts say.
use Rattle.std.proofs.Common.{◌≡◌, ℕ, ◌+◌, List, [], ◌∷◌, ◌++◌, Option, refl, ap, sym, ◌∙◌, arith, length}
use Rattle.std.specs.Prelude.{Bool, true, false, if◌then◌else◌, count_by}
use Rattle.std.proofs.lemmas.List.Sums.{sum_by-cons}
use Rattle.json_value.specs.declared.tree.Json.{Json}
use Rattle.cache_terms.specs.declared.keys.Key.{Key}
use Rattle.cache_book.specs.declared.found.Found.{Found}
use Rattle.cache_book.specs.declared.found.Found.TheVariants as found
use Rattle.cache_book.specs.declared.permit.Report.{Report}
use Rattle.cache_book.specs.Permits.{Pinned, Granted}
use Rattle.cache_book.specs.Calls.{Call, Answer, Look}
use Rattle.cache_seam.specs.Turns.{Turn}
use Rattle.cache_seam.specs.Hand.{permits_of}
use Rattle.line_base.specs.Lines.{Entry, calls_after}
use Rattle.fetch_asks.specs.declared.ask.Ask.{Ask}
use Rattle.piece_fetch.specs.declared.came.Brought.{Brought}
use Rattle.piece_fetch.specs.declared.fetched.Fetched.{Fetched}
use Rattle.piece_fetch.specs.declared.fetched.Lasts.{Lasts}
use Rattle.piece_fetch.specs.declared.fetched.Origin.{Origin}
use Rattle.piece_fetch.specs.declared.fetched.Origin.TheVariants as origin
use Rattle.piece_fetch.specs.declared.slots.Slot.{Slot}
use Rattle.piece_fetch.specs.declared.slots.Slot.TheVariants as slot
use Rattle.piece_fetch.specs.Offering.{is_null}
use Rattle.piece_fetch.specs.Coming.{SettlesEach, reports_of}
use Rattle.piece_fetch.specs.Fetching.{slots_of, own_origin, AreGathered, no_more, hit, own, FetchesPieces}
use Rattle.plan_run.specs.declared.outcome.Receipt.{Receipt}
use Rattle.plan_run.specs.Plans.{Wanted}
use Rattle.plan_run.specs.Outcomes.{Done, turns_of, receipts_from, receipts_of}
use Rattle.plan_run.specs.Requests.{AreRun}
use Rattle.workload.specs.Tallying.{hits_among, looked_in, looked_by}
use Rattle.workload.specs.Between.{is_hit, has_hit}

module _ (count : List Found → ℕ) where
  pub looked_append : (xs ys : List Turn) → looked_by count (xs ++ ys) ≡ looked_by count xs + looked_by count ys
  looked_append [] ys = omega arith
  looked_append (t ∷ ts) ys = omega (arith, looked_append ts ys)

  -- to settle is no look
  settles_none : (ps : List Granted) (rs : List Report) (ts : List Turn) → SettlesEach ps rs ts → looked_by count ts ≡ 0
  settles_none [] [] [] s = refl
  settles_none (p ∷ ps) (r ∷ rs) (t ∷ ts) s =
      let one : looked_in count t.call t.answer ≡ 0 = ap (λ (c : Call). looked_in count c t.answer) s.0 in
      omega (arith, one, settles_none ps rs ts s.1)
  settles_none [] (r ∷ rs) ts s = absurd s
  settles_none [] [] (t ∷ ts) s = absurd s
  settles_none (p ∷ ps) [] ts s = absurd s
  settles_none (p ∷ ps) (r ∷ rs) [] s = absurd s

  -- a fetch has one look
  pub fetch_looked : (ask : Ask) (keys : List Key) (id : Option (List ℕ)) (line call : ℕ) (pass : Pinned) (now : ℕ) (turns : List Turn) (entries : List Entry) (f : Fetched)
      (h : FetchesPieces ask keys id line call pass now turns entries f) → looked_by count turns ≡ count h.answers
  fetch_looked ask keys id line call pass now turns entries f h =
      let one : looked_in count h.look.call h.look.answer ≡ count h.answers = ap (λ (c : Call). looked_in count c h.look.answer) h.looks ∙ ap (λ (a : Answer). looked_in count (Look pass id keys now) a) h.looked in
      let none : looked_by count h.settles ≡ 0 = settles_none (permits_of h.answers) (reports_of ask (length (permits_of h.answers)) h.coming) h.settles h.settled in
      let whole : looked_by count turns ≡ looked_in count h.look.call h.look.answer + looked_by count h.settles = ap (looked_by count) h.turns_are in
      omega (arith, whole, one, none)

-- ---- hits

abbrev hits_in : List Slot → ℕ
hits_in [] = 0
hits_in (slot.Hit lookup stored value lasts ∷ slots) = 1 + hits_in slots
hits_in (slot.Asked ∷ slots) = hits_in slots

hits_slots : (answers : List Found) → hits_among answers ≡ hits_in (slots_of answers)
hits_slots [] = refl
hits_slots (found.Hit lookup stored value left_ms private ∷ answers) = ap (λ (n : ℕ). 1 + n) (hits_slots answers)
hits_slots (found.Miss lookup permit ∷ answers) = hits_slots answers
hits_slots (found.Bypass permit ∷ answers) = hits_slots answers

abbrev one_if : Bool → ℕ
one_if b = if b then 1 else 0

abbrev hits_of : List Origin → ℕ
hits_of [] = 0
hits_of (o ∷ os) = one_if (is_hit o) + hits_of os

own_is_none : (line call : ℕ) (v : Json) → is_hit (own_origin line call v) ≡ false
own_is_none line call v = by_test (is_null v)
  where
    by_test : (b : Bool) → is_hit (if b then origin.Absent else origin.Own line call) ≡ false
    by_test true = refl
    by_test false = refl

hits_pieces : (line call : ℕ) (slots : List Slot) (came : List Brought) (pieces : List Json) (origins : List Origin) (times : List (Option Lasts))
    → AreGathered line call slots came pieces origins times → hits_in slots ≡ hits_of origins
hits_pieces line call _ _ _ _ _ no_more = refl
hits_pieces line call _ _ _ _ _ (hit lookup stored value lasts piece slots came pieces origins times reads rest) = ap (λ (n : ℕ). 1 + n) (hits_pieces line call slots came pieces origins times rest)
hits_pieces line call _ _ _ _ _ (own one slots came pieces origins times rest) =
    let none : one_if (is_hit (own_origin line call one.value)) ≡ 0 = ap one_if (own_is_none line call one.value) in
    omega (arith, none, hits_pieces line call slots came pieces origins times rest)

abbrev receipt_hits : List Receipt → ℕ
receipt_hits [] = 0
receipt_hits (r ∷ rs) = one_if (has_hit r) + receipt_hits rs

receipts_append : (xs ys : List Receipt) → receipt_hits (xs ++ ys) ≡ receipt_hits xs + receipt_hits ys
receipts_append [] ys = omega arith
receipts_append (r ∷ rs) ys = omega (arith, receipts_append rs ys)

hits_from : (fetch index : ℕ) (os : List Origin) → receipt_hits (receipts_from fetch index os) ≡ hits_of os
hits_from fetch index [] = refl
hits_from fetch index (o ∷ os) = ap (λ (n : ℕ). one_if (is_hit o) + n) (hits_from fetch (index + 1) os)

pub counted_hits : (rs : List Receipt) → count_by has_hit rs ≡ receipt_hits rs
counted_hits [] = refl
counted_hits (r ∷ rs) = sum_by-cons (λ (x : Receipt). if has_hit x then 1 else 0) r rs ∙ ap (λ (n : ℕ). one_if (has_hit r) + n) (counted_hits rs)

fetch_hits : (ask : Ask) (keys : List Key) (id : Option (List ℕ)) (line call : ℕ) (pass : Pinned) (now : ℕ) (turns : List Turn) (entries : List Entry) (f : Fetched) (fetch : ℕ)
    → FetchesPieces ask keys id line call pass now turns entries f → looked_by hits_among turns ≡ receipt_hits (receipts_from fetch 0 f.origins.items)
fetch_hits ask keys id line call pass now turns entries f fetch h =
    fetch_looked hits_among ask keys id line call pass now turns entries f h ∙ hits_slots h.answers ∙ hits_pieces line call _ _ _ _ _ h.pieces ∙ sym (hits_from fetch 0 f.origins.items)

run_hits : (id : Option (List ℕ)) (line : ℕ) (pass : Pinned) (calls : ℕ) (ws : List Wanted) (ds : List Done) → AreRun id line pass calls ws ds
    → looked_by hits_among (turns_of ds) ≡ receipt_hits (receipts_of ws ds)
run_hits id line pass calls [] [] runs = refl
run_hits id line pass calls (w ∷ ws) (d ∷ ds) runs =
    let one = fetch_hits w.ask w.keys id line calls pass d.now d.turns d.entries d.fetched w.fetch runs.0 in
    let rest = run_hits id line pass (calls_after calls d.entries) ws ds runs.1 in
    omega (arith, looked_append hits_among d.turns (turns_of ds), receipts_append (receipts_from w.fetch 0 d.fetched.origins.items) (receipts_of ws ds), one, rest)
run_hits id line pass calls [] (d ∷ ds) runs = absurd runs
run_hits id line pass calls (w ∷ ws) [] runs = absurd runs

-- the hits of a run's looks are those that its receipts tell
pub hits_told : (id : Option (List ℕ)) (line : ℕ) (pass : Pinned) (calls : ℕ) (ws : List Wanted) (ds : List Done) → AreRun id line pass calls ws ds
    → looked_by hits_among (turns_of ds) ≡ count_by has_hit (receipts_of ws ds)
hits_told id line pass calls ws ds runs = run_hits id line pass calls ws ds runs ∙ sym (counted_hits (receipts_of ws ds))
