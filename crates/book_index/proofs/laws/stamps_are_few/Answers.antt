use Rattle.book_index.proofs.Counting.{stamps_few}
use Rattle.book_index.proofs.laws.stamps_are_few.Goals as goal

pub returns : goal.returns
returns c = stamps_few
