use Rattle.cache_book.proofs.Determined.{step_unique}
use Rattle.cache_book.proofs.laws.step_is_determined.Goals as goal

pub returns : goal.returns
returns c = step_unique
