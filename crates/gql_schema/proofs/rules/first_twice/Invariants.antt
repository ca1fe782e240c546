use Rattle.std.proofs.Common.{◌≡◌, ◌++◌, drop, take, map}
use Rattle.std.specs.Prelude.{flat_map}
use Rattle.gql_schema.specs.Rules.{twice_from, definition_name, own_definition}
use Rattle.gql_schema.proofs.rules.first_twice.Given as goal

abbrev pub invariant-loop-i : goal.invariant-loop-i
invariant-loop-i l = (twice_from l.names.keys (flat_map own_definition (drop l.i l.parts)) ≡ twice_from l.fn.names.keys (flat_map own_definition l.parts)) × (l.names.keys ≡ l.fn.names.keys ++ map definition_name (flat_map own_definition (take l.i l.parts)))
