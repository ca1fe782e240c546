use Rattle.book_tables.proofs.Opened.{none_open}
use Rattle.book_tables.proofs.laws.none_open_no_stamps.Goals as goal

pub returns : goal.returns
returns c = none_open
