use Rattle.gql_shape.specs.Indexed.{KnowsNoMore}
use Rattle.gql_shape.proofs.collections.keep.Given as goal

abbrev pub invariant-loop : goal.invariant-loop
invariant-loop l = KnowsNoMore l.fn.known.items l.known.items
