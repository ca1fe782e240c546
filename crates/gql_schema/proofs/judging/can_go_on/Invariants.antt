use Rattle.std.proofs.Common.{◌≡◌, take, false}
use Rattle.gql_parser.specs.Judging.{TellsWhether}
use Rattle.gql_schema.specs.Judging.{CanGoOn}
use Rattle.gql_schema.proofs.judging.can_go_on.Given as goal

abbrev pub invariant-loop-i : goal.invariant-loop-i
invariant-loop-i l = (l.tokens.items ≡ l.fn.tokens.items) × TellsWhether false (CanGoOn l.fn.tokens.items (take l.i l.next))
