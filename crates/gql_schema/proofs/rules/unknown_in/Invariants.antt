use Rattle.std.proofs.Common.{◌≡◌, drop}
use Rattle.std.specs.Prelude.{flat_map}
use Rattle.gql_schema.specs.Rules.{first_not_in, definition_types, own_definition}
use Rattle.gql_schema.proofs.rules.unknown_in.Given as goal

abbrev pub invariant-loop-i : goal.invariant-loop-i
invariant-loop-i l = first_not_in l.known.keys (flat_map definition_types (flat_map own_definition (drop l.i l.parts))) ≡ first_not_in l.known.keys (flat_map definition_types (flat_map own_definition l.parts))
