-- The pieces of a request that were found stand in the journal that it has seen.
use Rattle.std.proofs.Common.{◌≡◌, ℕ, List, [], ◌∷◌, Option, ap, sym, ◌∙◌, subst}
use Rattle.json_value.specs.declared.tree.Json.{Json}
use Rattle.cache_book.specs.declared.found.Found.TheVariants as found
use Rattle.cache_book.specs.Permits.{Pinned}
use Rattle.cache_book.specs.Calls.{Call, Answer, Step, Begin}
use Rattle.line_base.specs.Lines.{Line, calls_after}
use Rattle.cache_seam.specs.Seen.{Seen, pass_of}
use Rattle.cache_seam.specs.Turns.{AreTurns, IsTurn, seen_after, seen_after_all, pinned_after}
use Rattle.cache_seam.proofs.Chains.{seen_append}
use Rattle.cache_seam.proofs.ChainLaws.{turns_split}
use Rattle.recorded_hits.specs.Recorded.{LooksFindWhatIsRecorded, RecordedHitsStay}
use Rattle.piece_fetch.proofs.Pins.{KeepPin, pin_kept, keep_append, fetch_keeps}
use Rattle.piece_fetch.proofs.FoundPieces.{fetch_found}
use Rattle.plan_run.specs.declared.outcome.Outcome.{Outcome}
use Rattle.plan_run.specs.Plans.{Wanted}
use Rattle.plan_run.specs.Outcomes.{Done, turns_of}
use Rattle.plan_run.specs.Requests.{AreRun, DoesRequest}
use Rattle.plan_run.specs.Justified.{AllFound}

pub runs_keep : (id : Option (List ℕ)) (line : ℕ) (pass : Pinned) (calls : ℕ) (tasks : List Wanted) (done : List Done) → AreRun id line pass calls tasks done → KeepPin (turns_of done)
runs_keep id line pass calls [] [] h = tt
runs_keep id line pass calls (t ∷ ts) (d ∷ ds) h = keep_append d.turns (turns_of ds) (fetch_keeps t.ask t.keys id line calls pass d.now d.turns d.entries d.fetched h.0) (runs_keep id line pass (calls_after calls d.entries) ts ds h.1)
runs_keep id line pass calls [] (d ∷ ds) h = absurd h
runs_keep id line pass calls (t ∷ ts) [] h = absurd h

-- the hits of all fetches stand in the journal seen at the end
pub runs_found : LooksFindWhatIsRecorded → RecordedHitsStay → (id : Option (List ℕ)) (line : ℕ) (pass : Pinned) (calls : ℕ) (c : Seen) (tasks : List Wanted) (done : List Done) → pass_of c ≡ pass → AreRun id line pass calls tasks done → AreTurns c (turns_of done)
    → AllFound (seen_after_all c (turns_of done)).journal pass id tasks done
runs_found find stay id line pass calls c [] [] at h are = tt
runs_found find stay id line pass calls c (t ∷ ts) (d ∷ ds) at h are =
    let mid = seen_after_all c d.turns in
    let parts = turns_split c d.turns (turns_of ds) are in
    let pin = pin_kept c d.turns (fetch_keeps t.ask t.keys id line calls pass d.now d.turns d.entries d.fetched h.0) in
    let rest = runs_found find stay id line pass (calls_after calls d.entries) mid ts ds (pin.0 ∙ at) h.1 parts.1 in (
      fetch_found find stay t.ask t.keys id line calls pass d.now d.turns (turns_of ds) d.entries d.fetched c at h.0 (runs_keep id line pass (calls_after calls d.entries) ts ds h.1) are,
      subst (λ (s : Seen). AllFound s.journal pass id ts ds) (sym (seen_append c d.turns (turns_of ds))) rest,
    )
runs_found find stay id line pass calls c [] (d ∷ ds) at h are = absurd h
runs_found find stay id line pass calls c (t ∷ ts) [] at h are = absurd h

-- where a request was done, its hits stand in the journal seen at its end
pub request_found : LooksFindWhatIsRecorded → RecordedHitsStay → (next : List (List Json) → Option Wanted) (given now : List (List Json)) (id : Option (List ℕ)) (line : ℕ) (c d : Seen) (l m : Line) (before after : Option (List ℕ)) (o : Outcome) (h : DoesRequest next given now id line c d l m before after o) → AllFound d.journal h.pass id h.tasks h.done
request_found find stay next given now id line c d l m before after o h =
    let begin = h.begin in
    let turn : IsTurn c begin = h.takes.are_turns.0 in
    let step = subst (λ (a : Answer). Step begin.found (Begin c.number) a begin.left) h.begins.answer (subst (λ (x : Call). Step begin.found x begin.answer begin.left) h.begins.call turn.step) in
    let epoch : h.pass.epoch ≡ begin.left.epoch = ap (λ (p : Pinned). p.epoch) step.1 in
    let pinned : (seen_after c begin).pinned ≡ begin.left.epoch = ap (λ (x : Call). pinned_after x c.pinned begin.left.epoch) h.begins.call in
    let at : pass_of (seen_after c begin) ≡ h.pass =
    ap (λ (n : ℕ). record { who = n; epoch = (seen_after c begin).pinned }) (sym h.begins.who) ∙ ap (λ (e : ℕ). record { who = h.pass.who; epoch = e }) (pinned ∙ sym epoch) in
    subst (λ (s : Seen). AllFound s.journal h.pass id h.tasks h.done) (sym h.takes.after) (runs_found find stay id line h.pass l.calls (seen_after c begin) h.tasks h.done at h.runs h.takes.are_turns.1)
