use Rattle.json_value.proofs.Deeper.{value_deeper}
use Rattle.json_value.proofs.laws.spells_deeper.Goals as goal

pub returns : goal.returns
returns c = λ r d e v text le is. value_deeper r d v text is e le
