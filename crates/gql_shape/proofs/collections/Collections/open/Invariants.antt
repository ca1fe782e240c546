use Rattle.std.proofs.Common.{[]}
use Rattle.gql_shape.specs.Indexed.{KnowsNoMore}
use Rattle.gql_shape.proofs.collections.Collections.open.Given as goal

abbrev pub invariant-loop : goal.invariant-loop
invariant-loop l = KnowsNoMore [] l.known.items
