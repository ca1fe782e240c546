use Rattle.book_tables.proofs.Opened.{tell_oldest}
use Rattle.book_tables.proofs.laws.stamps_tell_of_oldest.Goals as goal

pub returns : goal.returns
returns c = tell_oldest
