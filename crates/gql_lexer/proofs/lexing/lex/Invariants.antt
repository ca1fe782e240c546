use Rattle.std.proofs.Common.{length, ◌-◌}
use Rattle.gql_lexer.proofs.Turns.{SoFar}
use Rattle.gql_lexer.proofs.lexing.lex.Given as goal

abbrev pub invariant-loop-at : goal.invariant-loop-at
invariant-loop-at l = SoFar l.text l.tokens.items l.places.items l.at

abbrev pub decreases-loop-at : goal.decreases-loop-at
decreases-loop-at l = length l.bytes - l.at
