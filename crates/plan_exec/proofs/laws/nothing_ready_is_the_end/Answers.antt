use Rattle.plan_exec.proofs.Ended.{nothing_ready, none_ready}
use Rattle.plan_exec.proofs.laws.nothing_ready_is_the_end.Goals as goal

pub returns-clause-ended : goal.returns-clause-ended
returns-clause-ended c = none_ready c.args.fetches.now c.args.given.now c.args.node.now

pub returns-clause-end : goal.returns-clause-end
returns-clause-end c = nothing_ready c.args.fetches.now c.args.given.now c.args.node.now
