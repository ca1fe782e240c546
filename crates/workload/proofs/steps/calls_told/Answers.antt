use Rattle.std.proofs.Common.{All, subst}
use Rattle.workload.specs.Answered.{IsAsReplied}
use Rattle.workload.proofs.Stepping.{first_is}
use Rattle.workload.proofs.steps.calls_told.Goals as goal

pub returns-clause-replied : goal.returns-clause-replied
returns-clause-replied c = subst (All IsAsReplied) (first_is c.args.lines.now _ c.requires.one c.index-lines-0.is) c.log.ensures.replied
