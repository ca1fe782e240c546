use Rattle.rehearsal.proofs.Holding.{voids_ready}
use Rattle.rehearsal.proofs.stage.Stage.void.Goals as goal

pub invariant_of-self : goal.invariant_of-self
invariant_of-self c = voids_ready c.self.inside.book c.args.who _ c.invalidate-answer.result c.invalidate-answer.new.self c.self.inside.hand c.invalidate-answer.ensures.step c.invalidate-answer.ensures.keeps c.self.invariant
