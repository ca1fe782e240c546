use Rattle.std.proofs.Common.{◌≡◌, [], drop, map}
use Rattle.gql_schema.specs.Rules.{first_again, field_name}
use Rattle.gql_schema.proofs.rules.again_in_fields.Given as goal

abbrev pub invariant-loop-i : goal.invariant-loop-i
invariant-loop-i l = first_again l.seen.keys (map field_name (drop l.i l.fields)) ≡ first_again [] (map field_name l.fields)
