use Rattle.recorded_hits.proofs.Recording.{look_recorded}
use Rattle.recorded_hits.proofs.laws.looks_find_what_is_recorded.Goals as goal

pub returns : goal.returns
returns c = look_recorded
