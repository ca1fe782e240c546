use Rattle.cache_model.proofs.Unique.{choice_unique}
use Rattle.cache_model.proofs.journals.choice_is_unique.Goals as goal

pub returns : goal.returns
returns c = choice_unique
