use Rattle.plan_exec.proofs.Orders.{one_goes, rounds_go, one_bound}
use Rattle.plan_exec.proofs.laws.an_order_ends.Goals as goal

pub returns-clause-one_by_one : goal.returns-clause-one_by_one
returns-clause-one_by_one c = one_goes (record { plan = c.args.plan.now; given = c.args.given.now })

pub returns-clause-rounds : goal.returns-clause-rounds
returns-clause-rounds c = rounds_go (record { plan = c.args.plan.now; given = c.args.given.now })

pub returns-clause-bound : goal.returns-clause-bound
returns-clause-bound c = one_bound (record { plan = c.args.plan.now; given = c.args.given.now })
