use Rattle.std.proofs.Common.{List, refl, ap, ◌∙◌, subst, inl, inr}
use Rattle.std.specs.Prelude.{Option}
use Rattle.std.specs.Option.{option_copied}
use Rattle.json_value.specs.declared.tree.Json.{Json}
use Rattle.piece_fetch.proofs.FetchParts.{any_err}
use Rattle.plan_run.specs.Plans.{Wanted}
use Rattle.plan_run.specs.Requests.{DropsRequest}
use Rattle.plan_run.specs.Fetches.{Execution, next_of}
use Rattle.plan_run.proofs.Values.{runs_plan}
use Rattle.plan_run.proofs.execution.execute.Goals as goal

pub returns-clause-ok : goal.returns-clause-ok
returns-clause-ok g c =
    let old = c.in_ok-fetches.fetches in
    let new = c.run_plan.new.plan in
    runs_plan c.args.plan.now c.args.subgraphs.now c.args.variables.now (option_copied c.args.id) c.args.number (g.C.Cache.seen c.args.cache.now) (g.C.Cache.seen c.run_plan.new.cache) (g.L.Line.line c.args.line.now) (g.L.Line.line c.run_plan.new.line)
    (g.T.Clock.log c.args.clock.now) (g.T.Clock.log c.run_plan.new.clock) old new c.finish-value.result c.in_ok-outcome.outcome c.in_ok-fetches.ensures c.in_ok-outcome.ensures.ok
    (ap (λ (over : List (List Json) → Json). over new.given) c.in_ok-outcome.ensures.same_value) c.finish-value.ensures

pub returns-in_err-fetches-clause-err : goal.returns-in_err-fetches-clause-err
returns-in_err-fetches-clause-err g c = any_err c.from_residual.result _ (inl (record { cache = refl; line = refl; clock = refl }))

pub returns-in_err-outcome-clause-err : goal.returns-in_err-outcome-clause-err
returns-in_err-outcome-clause-err g c =
    any_err c.from_residual-in_err-outcome.result _
    (inr (subst (λ (f : Execution). DropsRequest (next_of f.plan f.subgraphs f.variables) f.given (option_copied c.args.id) c.args.number (g.C.Cache.seen c.args.cache.now) (g.C.Cache.seen c.run_plan.new.cache) (g.L.Line.line c.args.line.now) (g.L.Line.line c.run_plan.new.line)
    (g.T.Clock.log c.args.clock.now) (g.T.Clock.log c.run_plan.new.clock)) c.in_ok-fetches.ensures c.in_err-outcome.ensures.err))
