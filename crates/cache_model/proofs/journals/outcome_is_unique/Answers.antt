use Rattle.cache_model.proofs.Unique.{due_unique}
use Rattle.cache_model.proofs.journals.outcome_is_unique.Goals as goal

pub returns : goal.returns
returns c = due_unique
