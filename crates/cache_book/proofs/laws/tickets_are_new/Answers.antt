use Rattle.cache_book.proofs.Stepping.{look_new}
use Rattle.cache_book.proofs.laws.tickets_are_new.Goals as goal

pub returns : goal.returns
returns c = look_new
