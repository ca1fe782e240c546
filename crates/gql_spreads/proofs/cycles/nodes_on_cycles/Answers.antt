use Rattle.std.proofs.Common.{arith}
use Rattle.gql_spreads.proofs.Kept.{starts}
use Rattle.gql_spreads.proofs.Stepping.{answered}
use Rattle.gql_spreads.proofs.cycles.nodes_on_cycles.Goals as goal

pub loop-root-init : goal.loop-root-init
loop-root-init c = (starts c.args.graph.now c.in_ok-search.search c.in_ok-search.ensures, c.in_ok-search.ensures.groups, λ v h. absurd (omega arith))

pub returns : goal.returns
returns c = answered c.args.graph.now c.loop-root.search c.loop-root.root c.loop-mark.mark-index c.loop-mark.flags.items c.deref-mark-items.result.now c.loop-root.invariant c.loop-root-test.false c.deref-mark-items.ensures.value
    c.loop-mark-test.false c.loop-mark.invariant
