use Rattle.std.proofs.Common.{◌≡◌, ◌∙◌, ap}
use Rattle.turn_lock.proofs.tests.take_turns.Goals as goal

pub loop-preserved : goal.loop-preserved
loop-preserved g c = let did = c.enter-total.ensures.turn in let after = c.leave.ensures did.0 _ (ap (λ m. m.stage) did.1) in
    (ap (λ m. m.stage) after, ap (λ m. m.home) after ∙ (ap (λ m. m.home) did.1 ∙ c.loop.invariant.1))
