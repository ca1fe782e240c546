use Rattle.std.proofs.Common.{◌≡◌, take, false}
use Rattle.token_read.specs.Texts.{CanFollow}
use Rattle.gql_terms.specs.Grammar.{strict}
use Rattle.gql_parser.specs.Reading.{all}
use Rattle.gql_parser.specs.Judging.{TellsWhether}
use Rattle.gql_parser.proofs.endings.can_follow.Given as goal

abbrev pub invariant-loop-i : goal.invariant-loop-i
invariant-loop-i l = (l.tokens.items ≡ l.fn.tokens.items) × TellsWhether false (CanFollow (all strict) l.fn.tokens.items (take l.i l.kinds))
