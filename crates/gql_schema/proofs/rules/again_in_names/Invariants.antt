use Rattle.std.proofs.Common.{◌≡◌, [], drop}
use Rattle.gql_schema.specs.Rules.{first_again}
use Rattle.gql_schema.proofs.rules.again_in_names.Given as goal

abbrev pub invariant-loop-i : goal.invariant-loop-i
invariant-loop-i l = first_again l.seen.keys (drop l.i l.names) ≡ first_again [] l.names
