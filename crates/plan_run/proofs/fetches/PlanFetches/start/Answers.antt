use Rattle.plan_run.proofs.Firsts.{at-start}
use Rattle.plan_run.proofs.fetches.PlanFetches.start.Goals as goal

pub invariant_of-result : goal.invariant_of-result
invariant_of-result c = record {
  at = at-start c.args.plan.now c.in_ok-machine.machine c.in_ok-machine.ensures.machine;
  lawful = c.requires.lawful;
  known = c.requires.known;
}
