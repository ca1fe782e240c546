use Rattle.cache_book.proofs.Stepping.{step_by}
use Rattle.cache_book.proofs.laws.step_is_by_its_caller.Goals as goal

pub returns : goal.returns
returns c = step_by
