use Rattle.std.proofs.Common.{rules}
use Rattle.workload.proofs.counts.tickets.Goals as goal

pub returns : goal.returns
returns c = search rules
