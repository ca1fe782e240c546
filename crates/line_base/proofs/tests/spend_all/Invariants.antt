use Rattle.std.specs.VecDeque.{deque_len}
use Rattle.line_base.proofs.tests.spend_all.Given as goal

abbrev pub decreases-works : goal.decreases-works
decreases-works g l = deque_len l.works
