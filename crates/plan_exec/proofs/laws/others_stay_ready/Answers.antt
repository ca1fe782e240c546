use Rattle.std.proofs.Common.{◌++◌}
use Rattle.plan_exec.proofs.Staying.{others_remain, extends-append}
use Rattle.plan_exec.proofs.Keeping.{order_stays}
use Rattle.plan_exec.proofs.laws.others_stay_ready.Goals as goal

pub returns-clause-order : goal.returns-clause-order
returns-clause-order c = λ more. order_stays c.args.fetches.now c.args.given.now (c.args.given.now ++ more) (extends-append c.args.given.now more) c.args.node.now

pub returns-clause-each : goal.returns-clause-each
returns-clause-each c = λ more. others_remain c.args.fetches.now c.args.given.now (c.args.given.now ++ more) (extends-append c.args.given.now more) c.args.node.now
