use Rattle.std.proofs.Common.{◌≡◌, ◌∷◌, ◌++◌, ℕ, List, arith}
use Rattle.std.specs.Prelude.{string_bytes}
use Rattle.std.proofs.lemmas.Grind.{common_steps}
use Rattle.std.proofs.lemmas.Result.{on_ok_weaker}
use Rattle.workload.specs.Replying.{form_text}
use Rattle.workload.proofs.Putting.{forms_put}
use Rattle.workload.proofs.replying.put_forms.Goals as goal

pub returns-in_ok-put_form-in-Some : goal.returns-in_ok-put_form-in-Some
returns-in_ok-put_form-in-Some c =
    let first : ℕ = c.in-Some.first.now in
    let others : List ℕ = c.in-Some.others.now in
    let split : c.args.items.now ≡ first ∷ others = c.in-Some.ensures.cases.0 in
    let one : string_bytes c.put_form.new.text ≡ string_bytes c.args.text.now ++ form_text c.args.form first = grind (arith, common_steps) in
    on_ok_weaker c.put_behind.result (λ rest. forms_put c.args.form c.args.items.now others first (string_bytes c.args.text.now) (string_bytes c.put_form.new.text) (string_bytes c.put_behind.new.text) split one rest) c.put_behind.ensures
