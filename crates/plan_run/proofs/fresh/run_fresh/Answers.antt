use Rattle.std.proofs.Common.{◌≡◌, ℕ, List, ◌∷◌, Option, ap, subst}
use Rattle.std.specs.Prelude.{true}
use Rattle.std.specs.Option.{option_copied}
use Rattle.json_value.specs.declared.tree.Json.{Json}
use Rattle.cache_terms.specs.declared.events.Limits.{Limits}
use Rattle.cache_model.specs.State.{State, opened}
use Rattle.cache_book.specs.Calls.{Call, Answer, Run}
use Rattle.line_base.specs.Lines.{Line}
use Rattle.cache_seam.specs.Seen.{Seen}
use Rattle.cache_seam.specs.Lonely.{seen_alone}
use Rattle.cache_seam.specs.Chains.{calls_of, answers_of}
use Rattle.cache_seam.proofs.ChainLaws.{takes_run}
use Rattle.piece_fetch.proofs.Sending.{if_ok_then}
use Rattle.plan_run.specs.declared.outcome.Outcome.{Outcome}
use Rattle.plan_run.specs.Plans.{Wanted}
use Rattle.plan_run.specs.Outcomes.{turns_of}
use Rattle.plan_run.specs.Requests.{DoesRequest}
use Rattle.plan_run.proofs.fresh.run_fresh.Goals as goal

abbrev Ran : Limits → Type 0
Ran limits = (calls : List Call) × (answers : List Answer) × (end : State) × Run (opened limits 0) calls answers end

ran : (limits : Limits) (next : List (List Json) → Option Wanted) (given now : List (List Json)) (id : Option (List ℕ)) (line : ℕ) (c d : Seen) (l m : Line) (before after : Option (List ℕ)) (o : Outcome) → c ≡ seen_alone (opened limits 0) true → DoesRequest next given now id line c d l m before after o → Ran limits
ran limits next given now id line c d l m before after o fresh h =
    let turns = h.begin ∷ turns_of h.done in
    let run : Run c.left (calls_of turns) (answers_of turns) d.left = takes_run c d turns (ap (λ (s : Seen). s.lone) fresh) h.takes in
    (calls_of turns, answers_of turns, d.left, subst (λ (s : Seen). Run s.left (calls_of turns) (answers_of turns) d.left) fresh run)

pub returns : goal.returns
returns g c =
    let next = g.P.Plan.next c.args.plan.now in
    let given = g.P.Plan.given c.args.plan.now in
    let now = g.P.Plan.given c.run_plan.new.plan in
    let id = option_copied c.args.id in
    let old : Seen = c.in_ok-cache.cache in
    let new : Seen = c.run_plan.new.cache in
    let l = g.L.Line.line c.args.line.now in
    let m = g.L.Line.line c.run_plan.new.line in
    let before = g.T.Clock.log c.args.clock.now in
    let after = g.T.Clock.log c.run_plan.new.clock in
    if_ok_then (λ (o : Outcome). DoesRequest next given now id 0 old new l m before after o) (λ (o : Outcome). Ran c.args.limits) c.run_plan.result c.run_plan.ensures.ok
    (λ o h. ran c.args.limits next given now id 0 old new l m before after o c.in_ok-cache.ensures h)
