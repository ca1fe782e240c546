use Rattle.json_tree.proofs.Printed.{printed_alone}
use Rattle.json_tree.proofs.laws.printed_text_has_one_value.Goals as goal

pub returns : goal.returns
returns c = printed_alone
