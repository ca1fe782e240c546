use Rattle.std.specs.VecDeque.{deque_len}
use Rattle.line_base.proofs.tests.spend_permits.Given as goal

abbrev pub decreases-permits : goal.decreases-permits
decreases-permits g l = deque_len l.permits
