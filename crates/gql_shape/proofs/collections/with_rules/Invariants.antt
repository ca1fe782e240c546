use Rattle.std.proofs.Common.{◌≡◌}
use Rattle.std.specs.Prelude.{map}
use Rattle.gql_shape.specs.Indexed.{with_rule}
use Rattle.gql_shape.proofs.collections.with_rules.Given as goal

abbrev pub invariant-loop-group : goal.invariant-loop-group
invariant-loop-group l = l.ruled.items ≡ map (with_rule l.scope.schema l.object) l.yielded
