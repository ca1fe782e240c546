use Rattle.std.proofs.Common.{◌≡◌}
use Rattle.std.specs.Option.{option_copied}
use Rattle.plan_run.proofs.Running.{SoFar}
use Rattle.plan_run.proofs.run.run_plan.Given as goal

abbrev pub invariant-running : goal.invariant-running
invariant-running g l = record {
  so_far : SoFar (g.P.Plan.next l.fn.plan) (g.P.Plan.given l.fn.plan) (g.P.Plan.given l.plan) (option_copied l.id) l.number (g.C.Cache.seen l.fn.cache) (g.C.Cache.seen l.cache) (g.L.Line.line l.fn.line) (g.L.Line.line l.line) (g.T.Clock.log l.fn.clock) (g.T.Clock.log l.clock)
      l.outcome.receipts.items l.outcome.lasts.items l.outcome.errors.items;
  same_next : g.P.Plan.next l.plan ≡ g.P.Plan.next l.fn.plan;
  same_value : g.P.Plan.value_over l.plan ≡ g.P.Plan.value_over l.fn.plan;
}

abbrev pub decreases-running : goal.decreases-running
decreases-running g l = g.P.Plan.left l.plan
