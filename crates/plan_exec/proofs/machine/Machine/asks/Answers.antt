use Rattle.std.proofs.Common.{◌≡◌, ◌∙◌, subst, None}
use Rattle.plan_exec.specs.Exec.{pieces_of}
use Rattle.plan_exec.specs.Tasks.{Progress}
use Rattle.plan_exec.specs.Giving.{Among}
use Rattle.plan_exec.proofs.Orders.{fresh}
use Rattle.plan_exec.proofs.machine.Machine.asks.Goals as goal

pub returns-clause-fresh : goal.returns-clause-fresh
returns-clause-fresh c = λ t among.
    subst (λ (p : Progress). pieces_of p.given t.fetch ≡ None) c.self.view_is
    (fresh c.self.inside.plan c.self.inside.given.items t (subst (Among t) (c.in_ok-tasks.ensures ∙ c.deref.ensures.value ∙ c.self.invariant.tasks_are) among))
