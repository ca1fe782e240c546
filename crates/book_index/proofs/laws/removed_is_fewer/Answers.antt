use Rattle.book_index.proofs.Counting.{one_fewer}
use Rattle.book_index.proofs.laws.removed_is_fewer.Goals as goal

pub returns : goal.returns
returns c = one_fewer
