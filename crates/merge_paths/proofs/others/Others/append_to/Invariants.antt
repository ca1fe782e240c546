use Rattle.std.proofs.Common.{◌≡◌, ◌++◌, length}
use Rattle.merge_paths.specs.Taking.{taken_back, not_taken}
use Rattle.merge_paths.proofs.others.Others.append_to.Given as goal

abbrev pub invariant-loop-name : goal.invariant-loop-name
invariant-loop-name l = record {
  whole : l.members ++ taken_back l.names.keys l.values.items ≡ l.fn.members ++ not_taken l.fn.self;
  long : length l.values.items ≡ length l.names.keys;
}

abbrev pub decreases-loop-name : goal.decreases-loop-name
decreases-loop-name l = length l.names.keys
