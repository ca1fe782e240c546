use Rattle.std.proofs.Common.{◌≡◌, drop}
use Rattle.std.specs.Prelude.{flat_map}
use Rattle.gql_schema.specs.Rules.{first_not_in, field_types}
use Rattle.gql_schema.proofs.rules.unknown_field.Given as goal

abbrev pub invariant-loop-i : goal.invariant-loop-i
invariant-loop-i l = first_not_in l.known.keys (flat_map field_types (drop l.i l.fields)) ≡ first_not_in l.known.keys (flat_map field_types l.fields)
