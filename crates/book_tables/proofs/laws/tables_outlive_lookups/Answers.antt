use Rattle.book_tables.proofs.Standings.{lookup_stands}
use Rattle.book_tables.proofs.laws.tables_outlive_lookups.Goals as goal

pub returns : goal.returns
returns c = lookup_stands
