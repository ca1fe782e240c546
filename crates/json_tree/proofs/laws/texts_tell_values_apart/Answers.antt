use Rattle.json_tree.proofs.Printed.{printed_apart}
use Rattle.json_tree.proofs.laws.texts_tell_values_apart.Goals as goal

pub returns : goal.returns
returns c = printed_apart
