use Rattle.std.proofs.Common.{◌≡◌, take}
use Rattle.std.specs.Prelude.{map}
use Rattle.gql_spreads.specs.Numbers.{targets_of}
use Rattle.gql_spreads.proofs.targets.fragment_graph.Given as goal

abbrev pub invariant-loop-fragment : goal.invariant-loop-fragment
invariant-loop-fragment l = l.graph.items ≡ map (targets_of l.numbers) (take l.fragment-index l.fragments)
