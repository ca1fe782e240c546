use Rattle.std.proofs.Common.{vec_len}
use Rattle.book_cases.proofs.ends.Ends.end_all.Given as goal

abbrev pub decreases-loop-permit : goal.decreases-loop-permit
decreases-loop-permit l = vec_len l.hand
