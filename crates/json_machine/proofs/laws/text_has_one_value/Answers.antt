use Rattle.json_machine.proofs.OneValue.{one_value}
use Rattle.json_machine.proofs.laws.text_has_one_value.Goals as goal

pub returns : goal.returns
returns c = one_value
