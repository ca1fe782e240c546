use Rattle.std.proofs.Common.{◌≡◌, drop, vec_len}
use Rattle.gql_spreads.specs.Search.{done_all}
use Rattle.gql_spreads.proofs.steps.finish.Given as goal

abbrev pub invariant-loop-node : goal.invariant-loop-node
invariant-loop-node l =
    (vec_len l.marks ≡ vec_len l.fn.marks) × (done_all (drop l.node-index l.nodes) l.cyclic l.marks.items ≡ done_all l.nodes l.cyclic l.fn.marks.items)
