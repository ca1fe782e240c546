use Rattle.json_value.proofs.Inner.{part_text}
use Rattle.json_value.proofs.laws.parts_have_texts.Goals as goal

pub returns : goal.returns
returns c = part_text
