use Rattle.cache_book.proofs.Outliving.{look_owed}
use Rattle.cache_book.proofs.laws.permits_are_owed.Goals as goal

pub returns : goal.returns
returns c = look_owed
