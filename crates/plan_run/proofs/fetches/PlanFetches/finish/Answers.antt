use Rattle.std.proofs.Common.{◌≡◌, None, ap, sym, ◌∙◌, subst}
use Rattle.plan_exec.specs.Tasks.{value}
use Rattle.plan_run.specs.Fetches.{Execution, progress_of, next_of}
use Rattle.plan_run.proofs.Firsts.{finished}
use Rattle.plan_run.proofs.fetches.PlanFetches.finish.Goals as goal

pub finish-requires : goal.finish-requires
finish-requires c =
    finished c.self.inside.plan.now c.self.inside.subgraphs.now c.self.inside.variables.now c.self.inside.machine c.self.invariant
    (subst (λ (f : Execution). next_of f.plan f.subgraphs f.variables f.given ≡ None) (sym c.self.view_is) c.requires)

pub returns : goal.returns
returns c =
    c.finish.ensures ∙ ap value c.self.invariant.at ∙ ap (λ (f : Execution). value (progress_of f.plan f.given)) c.self.view_is
