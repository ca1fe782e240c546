use Rattle.std.proofs.Common.{◌+◌, ◌*◌, drop}
use denote.Param.Weighed.{most}
use Rattle.gql_terms.proofs.documents.Selection.TheLaws.{the_size}
use Rattle.gql_shape.proofs.Spreads.{unseen, deepest}
use Rattle.gql_shape.proofs.Going.{Going}
use Rattle.gql_shape.proofs.collect.+collect.Given as goal

abbrev pub decreases-collect : goal.decreases-collect
decreases-collect l = unseen l.into.now.seen l.scope.now.fragments * (2 * deepest the_size l.scope.now.fragments + 2) + (2 * most the_size l.selections.now + 1)

abbrev pub decreases-take : goal.decreases-take
decreases-take l = unseen l.into.now.seen l.scope.now.fragments * (2 * deepest the_size l.scope.now.fragments + 2) + 2 * the_size l.selection.now

abbrev pub decreases-take_spread : goal.decreases-take_spread
decreases-take_spread l = unseen l.into.now.seen l.scope.now.fragments * (2 * deepest the_size l.scope.now.fragments + 2) + 1

abbrev pub invariant-collect-loop-i : goal.invariant-collect-loop-i
invariant-collect-loop-i l = Going l.scope l.type_name l.selections (drop l.i l.selections) l.fn.into l.into
