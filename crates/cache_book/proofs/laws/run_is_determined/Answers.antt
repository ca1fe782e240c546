use Rattle.cache_book.proofs.Stepping.{run_unique}
use Rattle.cache_book.proofs.laws.run_is_determined.Goals as goal

pub returns : goal.returns
returns c = run_unique
