use Rattle.rehearsal.proofs.Determined.{runs_same}
use Rattle.rehearsal.proofs.laws.lines_have_one_text.Goals as goal

pub returns : goal.returns
returns c = runs_same
