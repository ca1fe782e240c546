use Rattle.cache_book.proofs.Outliving.{step_outlived}
use Rattle.cache_book.proofs.laws.permits_outlive_a_step.Goals as goal

pub returns : goal.returns
returns c = step_outlived
