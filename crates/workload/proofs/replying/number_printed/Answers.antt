use Rattle.workload.proofs.Printed.{printed_is}
use Rattle.workload.proofs.replying.number_printed.Goals as goal

pub returns : goal.returns
returns c = printed_is c.number.result c.args.text.now (rw c.as_str.ensures at c.number.ensures)
