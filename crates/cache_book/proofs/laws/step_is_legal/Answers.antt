use Rattle.cache_book.proofs.Stepping.{step_legal}
use Rattle.cache_book.proofs.laws.step_is_legal.Goals as goal

pub returns : goal.returns
returns c = step_legal
