use Rattle.std.proofs.Common.{◌≡◌, ◌++◌, map}
use Rattle.gql_schema.specs.Rules.{type_def, definitions}
use Rattle.gql_schema.proofs.making.add_parts.Given as goal

abbrev pub invariant-loop-part : goal.invariant-loop-part
invariant-loop-part l = l.types ≡ l.fn.types ++ map type_def (definitions l.yielded)
