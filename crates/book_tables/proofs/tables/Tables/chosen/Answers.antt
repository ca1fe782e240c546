use Rattle.std.proofs.Common.{inr}
use Rattle.book_tables.proofs.tables.Tables.chosen.Goals as goal

pub returns-in-None-served-clause-choice : goal.returns-in-None-served-clause-choice
returns-in-None-served-clause-choice c = rw c.in-Some.is (inr (rw c.in-Some.is at c.in-None-served.ensures.serves, c.served-in-None-served.ensures.serves))
