use Rattle.cache_model.proofs.Legality.{empty_legal}
use Rattle.cache_model.proofs.journals.empty_is_legal.Goals as goal

pub returns : goal.returns
returns c = empty_legal
