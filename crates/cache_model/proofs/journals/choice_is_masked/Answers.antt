use Rattle.cache_model.proofs.Choosing.{choice_masked, choice_unmasked}
use Rattle.cache_model.proofs.journals.choice_is_masked.Goals as goal

pub returns : goal.returns
returns c = λ J key id now hit. (choice_masked J id key now hit, choice_unmasked J id key now hit)
