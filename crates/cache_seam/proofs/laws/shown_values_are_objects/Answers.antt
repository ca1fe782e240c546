use Rattle.cache_seam.proofs.FoundObjects.{kept_is_object}
use Rattle.cache_seam.proofs.laws.shown_values_are_objects.Goals as goal

pub returns : goal.returns
returns c = λ s at kept value coherent is value_is. kept_is_object s.left.journal at kept value coherent.lawful.objects is value_is
