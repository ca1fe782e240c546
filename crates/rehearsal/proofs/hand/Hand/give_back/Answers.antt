use Rattle.std.proofs.Common.{◌∙◌, sym, subst}
use Rattle.std.specs.FinMap as map
use Rattle.rehearsal.specs.Scene.{Permits}
use Rattle.rehearsal.specs.InHand.{IsReady}
use Rattle.rehearsal.proofs.Maps.{get_is, remove_is, name_total, name_same}
use Rattle.rehearsal.proofs.Holding.{settle_ready}
use Rattle.rehearsal.proofs.hand.Hand.give_back.Goals as goal

pub loop-permit-init : goal.loop-permit-init
loop-permit-init c = subst (λ (h : Permits). IsReady c.args.book.now h) (sym c.self.view_is) c.requires

pub settle-settled-requires-clause-may : goal.settle-settled-requires-clause-may
settle-settled-requires-clause-may c =
    (c.loop-permit.invariant c.in-Some.field-0-0 c.in-Some.permit (get_is name_total c.loop-permit.permits.entries c.in-Some.field-0-0 ∙ c.in-Some.ensures.value)).may

pub loop-permit-preserved : goal.loop-permit-preserved
loop-permit-preserved c =
    subst (λ (h : Permits). IsReady c.settle-settled.new.self h)
    (sym (remove_is name_total name_same c.loop-permit.permits.entries c.pop_first.new.self.entries c.in-Some.field-0-0 (c.in-Some.ensures.updates.0)))
    (settle_ready c.loop-permit.book (map.from_entries c.loop-permit.permits.entries) c.in-Some.field-0-0 c.in-Some.permit _ _ c.settle-settled.new.self
    (get_is name_total c.loop-permit.permits.entries c.in-Some.field-0-0 ∙ c.in-Some.ensures.value) c.settle-settled.ensures.step c.settle-settled.ensures.keeps c.loop-permit.invariant)
