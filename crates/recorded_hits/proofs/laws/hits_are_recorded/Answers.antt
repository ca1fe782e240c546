use Rattle.recorded_hits.proofs.Recording.{hit_recorded}
use Rattle.recorded_hits.proofs.laws.hits_are_recorded.Goals as goal

pub returns : goal.returns
returns c = hit_recorded
