use Rattle.script_lines.proofs.Reading.{readings_agree}
use Rattle.script_lines.proofs.laws.one_reading.Goals as goal

pub returns : goal.returns
returns c = readings_agree
