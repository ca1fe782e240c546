use Rattle.std.proofs.Common.{◌≡◌, drop, map}
use Rattle.gql_schema.specs.Rules.{first_not_in, input_type}
use Rattle.gql_schema.proofs.rules.unknown_input.Given as goal

abbrev pub invariant-loop-i : goal.invariant-loop-i
invariant-loop-i l = first_not_in l.known.keys (map input_type (drop l.i l.fields)) ≡ first_not_in l.known.keys (map input_type l.fields)
