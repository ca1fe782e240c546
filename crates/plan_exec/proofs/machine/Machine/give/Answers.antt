use Rattle.std.proofs.Common.{rules, ◌≡◌, sym, subst, List, ◌<◌, ◌++◌}
use Rattle.plan_exec.specs.declared.tasks.Done.{Done}
use Rattle.plan_exec.specs.Ready.{ready}
use Rattle.plan_exec.specs.Tasks.{Progress, waiting, empty}
use Rattle.plan_exec.specs.Keeping.{IsPart, still_open}
use Rattle.plan_exec.proofs.Staying.{extends-append}
use Rattle.plan_exec.proofs.Keeping.{order_stays}
use Rattle.plan_exec.specs.Giving.{CanTake, count_left, fetches_left}
use Rattle.plan_exec.proofs.Rounds.{fewer}
use Rattle.plan_exec.proofs.machine.Machine.give.Goals as goal

pub returns-clause-fewer : goal.returns-clause-fewer
returns-clause-fewer c =
    let take : CanTake (record { plan = c.self.inside.plan; given = c.self.inside.given.items }) c.args.results.items = subst (λ (p : Progress). CanTake p c.args.results.items) (sym c.self.view_is) c.requires in
    subst (λ (p : Progress). count_left c.advance.new.given.items c.self.inside.plan.root < fetches_left p) c.self.view_is
    (subst (λ (ds : List Done). count_left ds c.self.inside.plan.root < count_left c.self.inside.given.items c.self.inside.plan.root) (sym c.in_ok-whole.ensures.given) (fewer c.self.inside.plan c.self.inside.given.items c.args.results.items take))

pub returns-clause-others : goal.returns-clause-others
returns-clause-others c =
    subst (λ (p : Progress). IsPart (still_open c.advance.new.given.items (waiting p)) (ready c.self.inside.plan.fetches c.advance.new.given.items c.self.inside.plan.root empty)) c.self.view_is
    (subst (λ (ds : List Done). IsPart (still_open ds (ready c.self.inside.plan.fetches c.self.inside.given.items c.self.inside.plan.root empty)) (ready c.self.inside.plan.fetches ds c.self.inside.plan.root empty)) (sym c.in_ok-whole.ensures.given)
    (order_stays c.self.inside.plan.fetches c.self.inside.given.items (c.self.inside.given.items ++ c.args.results.items) (extends-append c.self.inside.given.items c.args.results.items) c.self.inside.plan.root empty))
