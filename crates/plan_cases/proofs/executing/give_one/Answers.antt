use Rattle.std.proofs.Common.{◌≡◌, sym, ap, ◌∙◌, subst, refl, List, [], ◌∷◌, ◌++◌, Some, length, arith}
use Rattle.std.specs.Prelude.{slice_get}
use Rattle.plan_exec.specs.declared.tasks.Done.{Done}
use Rattle.plan_exec.specs.declared.tasks.Task.{Task}
use Rattle.plan_exec.specs.Giving.{CanTake, count_asked}
use Rattle.plan_exec.proofs.Orders.{one_taken}
use Rattle.plan_cases.proofs.executing.give_one.Goals as goal

pub give-requires : goal.give-requires
give-requires c =
    let done : Done = record { fetch = c.in-Some.task.now.fetch; pieces = c.args.pieces } in
    let here : slice_get c.in_ok-tasks.tasks.items c.args.which ≡ Some c.in-Some.task.now = sym (c.in-Some.ensures ∙ ap (λ (ts : List Task). slice_get ts c.args.which) c.deref.ensures.value) in
    let count : length c.args.pieces ≡ count_asked c.in-Some.task.now.asked = omega (arith, c.if-count-len.false, c.count.ensures, c.len.ensures) in
    let given : c.push.new.self.items ≡ done ∷ [] = c.in_ok-push.ensures.items ∙ ap (λ (ds : List Done). ds ++ (done ∷ [])) c.new-results.ensures.items in
    subst (CanTake c.args.machine.now) (sym given) (one_taken c.args.machine.now.plan c.args.machine.now.given c.in_ok-tasks.tasks.items c.in-Some.task.now c.args.which done c.in_ok-tasks.ensures.tasks here refl count)
