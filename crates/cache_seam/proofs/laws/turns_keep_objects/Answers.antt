use Rattle.cache_seam.proofs.ChainLaws.{takes_keep}
use Rattle.cache_seam.proofs.laws.turns_keep_objects.Goals as goal

pub returns : goal.returns
returns c = takes_keep
