use Rattle.std.proofs.Common.{◌≡◌, [], drop, map}
use Rattle.gql_schema.specs.Rules.{first_again, input_name}
use Rattle.gql_schema.proofs.rules.again_in_inputs.Given as goal

abbrev pub invariant-loop-i : goal.invariant-loop-i
invariant-loop-i l = first_again l.seen.keys (map input_name (drop l.i l.fields)) ≡ first_again [] (map input_name l.fields)
