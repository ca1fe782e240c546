use Rattle.recorded_hits.proofs.Recording.{recorded_stays}
use Rattle.recorded_hits.proofs.laws.recorded_hits_stay.Goals as goal

pub returns : goal.returns
returns c = recorded_stays
