use Rattle.plan_exec.proofs.InOrder.{stands_in_order, asks_each_once}
use Rattle.plan_exec.proofs.laws.ready_fetches_stand_in_order.Goals as goal

pub returns-clause-order : goal.returns-clause-order
returns-clause-order c = stands_in_order c.args.plan.now.fetches c.args.given.now c.args.plan.now.root

pub returns-clause-once : goal.returns-clause-once
returns-clause-once c = asks_each_once c.args.plan.now c.args.given.now
