use Rattle.rehearsal.proofs.Onward.{front_goes}
use Rattle.rehearsal.proofs.laws.a_front_goes_on.Goals as goal

pub returns : goal.returns
returns c = front_goes
