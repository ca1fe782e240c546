use Rattle.std.proofs.Common.{◌≡◌}
use Rattle.merge_paths.specs.Taking.{not_taken, IsIndexed}
use Rattle.merge_paths.proofs.others.Others.of.Given as goal

abbrev pub invariant-loop : goal.invariant-loop
invariant-loop l = record {
  same : not_taken l.others ≡ l.fn.members;
  indexed : IsIndexed l.others;
}
