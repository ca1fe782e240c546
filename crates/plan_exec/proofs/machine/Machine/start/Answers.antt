use Rattle.std.proofs.Common.{◌≡◌, ap, ◌∙◌, List, length}
use Rattle.plan_tree.specs.declared.plan.Plan.{Plan}
use Rattle.plan_tree.specs.Numbers.{numbers}
use Rattle.plan_exec.specs.declared.tasks.Done.{Done}
use Rattle.plan_exec.specs.Giving.{count_left}
use Rattle.plan_exec.proofs.Orders.{all_left, all_numbered}
use Rattle.plan_exec.proofs.machine.Machine.start.Goals as goal

pub returns-clause-bound : goal.returns-clause-bound
returns-clause-bound c =
    ap (λ (ds : List Done). count_left ds c.in_ok-plan.plan.root) c.new-given.ensures.items ∙ all_left c.in_ok-plan.plan.root ∙ ap (λ (p : Plan). length (numbers p.root)) c.in_ok-plan.ensures

pub returns-clause-lawful : goal.returns-clause-lawful
returns-clause-lawful c = λ lawful.
    ap (λ (ds : List Done). count_left ds c.in_ok-plan.plan.root) c.new-given.ensures.items ∙ all_left c.in_ok-plan.plan.root ∙ ap (λ (p : Plan). length (numbers p.root)) c.in_ok-plan.ensures ∙ all_numbered c.args.plan.now lawful
