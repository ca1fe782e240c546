use Rattle.rehearsal.proofs.Determined.{plays_same}
use Rattle.rehearsal.proofs.laws.a_line_has_one_reply.Goals as goal

pub returns : goal.returns
returns c = plays_same
