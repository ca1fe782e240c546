use Rattle.std.proofs.Common.{All, subst}
use Rattle.workload.specs.Answered.{IsAsReplied}
use Rattle.workload.proofs.line.ShopLine.log.Goals as goal

pub returns-clause-replied : goal.returns-clause-replied
returns-clause-replied c = subst (All IsAsReplied) c.self.view_is c.self.invariant
