use Rattle.std.proofs.Common.{vec_len}
use Rattle.book_cases.proofs.looking.are_right.Given as goal

abbrev pub decreases-loop-found : goal.decreases-loop-found
decreases-loop-found l = vec_len l.answers
