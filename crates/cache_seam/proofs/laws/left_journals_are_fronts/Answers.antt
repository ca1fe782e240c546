use Rattle.cache_seam.proofs.ChainLaws.{takes_fronts}
use Rattle.cache_seam.proofs.laws.left_journals_are_fronts.Goals as goal

pub returns : goal.returns
returns c = takes_fronts
