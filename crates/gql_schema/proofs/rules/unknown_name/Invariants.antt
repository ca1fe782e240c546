use Rattle.std.proofs.Common.{◌≡◌, drop}
use Rattle.gql_schema.specs.Rules.{first_not_in}
use Rattle.gql_schema.proofs.rules.unknown_name.Given as goal

abbrev pub invariant-loop-i : goal.invariant-loop-i
invariant-loop-i l = first_not_in l.known.keys (drop l.i l.names) ≡ first_not_in l.known.keys l.names
