use Rattle.rehearsal.proofs.Determined.{front_within}
use Rattle.rehearsal.proofs.laws.a_front_is_a_front.Goals as goal

pub returns : goal.returns
returns c = front_within
