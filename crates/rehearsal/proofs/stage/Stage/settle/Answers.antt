use Rattle.std.proofs.Common.{◌∙◌, sym, subst}
use Rattle.rehearsal.specs.Scene.{Permits}
use Rattle.rehearsal.specs.InHand.{IsReady}
use Rattle.rehearsal.proofs.Holding.{remove_ready, settle_ready}
use Rattle.rehearsal.proofs.stage.Stage.settle.Goals as goal

pub invariant_of-self : goal.invariant_of-self
invariant_of-self c = remove_ready c.self.inside.book c.self.inside.hand (c.args.epoch, c.args.ticket) c.take.new.self c.take.ensures.left c.self.invariant

pub invariant_of-self-in-None-2 : goal.invariant_of-self-in-None-2
invariant_of-self-in-None-2 c = remove_ready c.self.inside.book c.self.inside.hand (c.args.epoch, c.args.ticket) c.take.new.self c.take.ensures.left c.self.invariant

pub invariant_of-self-in-None-3 : goal.invariant_of-self-in-None-3
invariant_of-self-in-None-3 c = remove_ready c.self.inside.book c.self.inside.hand (c.args.epoch, c.args.ticket) c.take.new.self c.take.ensures.left c.self.invariant

pub invariant_of-self-in-Some : goal.invariant_of-self-in-Some
invariant_of-self-in-Some c =
    subst (λ (h : Permits). IsReady c.settle-settled.new.self h) (sym c.take.ensures.left)
    (settle_ready c.self.inside.book c.self.inside.hand (c.args.epoch, c.args.ticket) c.in-Some.permit _ _ c.settle-settled.new.self
    (sym c.take.ensures.taken ∙ c.in-Some.is) c.settle-settled.ensures.step c.settle-settled.ensures.keeps c.self.invariant)
