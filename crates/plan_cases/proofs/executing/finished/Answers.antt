use Rattle.std.proofs.Common.{◌≡◌, sym, ◌∙◌, [], arith}
use Rattle.std.specs.Vec.{vec_len}
use Rattle.std.proofs.lemmas.Bool.{eqb-true}
use Rattle.plan_exec.specs.Tasks.{task_of, waiting}
use Rattle.plan_exec.proofs.Ends.{short_list}
use Rattle.plan_cases.proofs.Empty.{none_mapped}
use Rattle.plan_cases.proofs.executing.finished.Goals as goal

pub finish-value-requires : goal.finish-value-requires
finish-value-requires c =
    let short : vec_len c.in_ok-asks.field-0 ≡ 0 = eqb-true (vec_len c.in_ok-asks.field-0) 0 (sym c.is_empty.ensures ∙ c.if-not-is_empty.false) in
    let none : c.in_ok-asks.field-0.items ≡ [] = short_list c.in_ok-asks.field-0.items (omega (arith, short, c.in_ok-asks.field-0.ok.0)) in
    none_mapped (task_of c.args.machine.plan.fetches) (waiting c.args.machine) (sym c.in_ok-asks.ensures.tasks ∙ none)
