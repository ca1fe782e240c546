use Rattle.rehearsal.proofs.Holding.{empty_ready}
use Rattle.rehearsal.proofs.stage.Stage.open.Goals as goal

pub invariant_of-result : goal.invariant_of-result
invariant_of-result c = empty_ready c.in_ok-open.field-0 c.new-2.result c.new-2.ensures
