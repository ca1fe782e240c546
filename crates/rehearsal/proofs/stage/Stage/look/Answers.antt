use Rattle.std.proofs.Common.{◌∙◌, sym, refl}
use Rattle.rehearsal.proofs.stage.Stage.look.Goals as goal

pub returns : goal.returns
returns c =
    let looks = c.in_ok-ask-in-Some.ensures.looks in
    rw (← c.self.view_is) (record {
      pass = c.in-Some.pass;
      pass_is = sym c.last.ensures ∙ c.in-Some.is;
      answer = looks.answer;
      step = rw c.as_ref.ensures.value at looks.step;
      passes = refl;
      hand = looks.taken;
      says = looks.says;
    })
