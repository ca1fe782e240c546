use Rattle.cache_seam.proofs.FoundObjects.{look_finds}
use Rattle.cache_seam.proofs.laws.found_values_are_objects.Goals as goal

pub returns : goal.returns
returns c = look_finds
