use Rattle.std.proofs.Common.{take, [], ◌++◌}
use Rattle.gql_shape.specs.Collecting.{Collects}
use Rattle.gql_shape.specs.Completing.{joined}
use Rattle.gql_shape.proofs.collections.collect_group.Given as goal

abbrev pub invariant-loop-i : goal.invariant-loop-i
invariant-loop-i l = Collects l.scope l.object (l.group.first.selections ++ joined (take l.i l.group.more)) (record { seen = []; groups = [] }) l.into
