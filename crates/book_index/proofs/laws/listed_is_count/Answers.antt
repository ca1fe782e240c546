use Rattle.book_index.proofs.Counting.{listed_count}
use Rattle.book_index.proofs.laws.listed_is_count.Goals as goal

pub returns : goal.returns
returns c = listed_count
