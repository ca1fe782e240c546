use Rattle.std.proofs.Common.{◌≡◌, ◌<◌, ◌≤◌}
use Rattle.workload.specs.Draws.{generated}
use Rattle.workload.specs.Steps.{StandsAfter}
use Rattle.workload.specs.Between.{HasOneLine, midway}
use Rattle.workload.proofs.steps.do_steps.Given as goal

abbrev pub invariant-loop-k : goal.invariant-loop-k
invariant-loop-k l = record {
  within : l.k ≤ l.steps;
  number : l.number ≡ generated l.k;
  small : l.number < 2147483648;
  one : HasOneLine l.shop.lines.items;
  stands : StandsAfter l.site l.k (midway l.shop);
}
