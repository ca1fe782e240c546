use Rattle.std.proofs.Common.{◌≡◌, ℕ, sym, ◌∙◌, subst}
use Rattle.cache_terms.specs.declared.events.Mark.{Mark}
use Rattle.cache_terms.specs.declared.events.Mark.TheVariants as mark
use Rattle.cache_model.specs.State.{State}
use Rattle.rehearsal.specs.Scene.{Permits}
use Rattle.rehearsal.specs.InHand.{IsReady, IsNew}
use Rattle.rehearsal.proofs.Holding.{insert_ready, spend_ready, settle_past, with_none}
use Rattle.rehearsal.proofs.acts.hold.Goals as goal

pub returns-in-Ok-clause-ready : goal.returns-in-Ok-clause-ready
returns-in-Ok-clause-ready c =
    let free = subst (λ (m : Mark). IsNew c.args.book.now c.args.hand.now c.args.permit m) (sym c.mark.ensures ∙ c.in-Ticket.is) c.requires.free in
    subst (λ (h : Permits). IsReady c.args.book.now h) (sym c.in-Ok.ensures.ok)
    (insert_ready c.args.book.now c.args.hand.now c.in-Ticket.ticket c.args.permit free.0 c.requires.ready)

pub returns-in-Err-clause-ready : goal.returns-in-Err-clause-ready
returns-in-Err-clause-ready c =
    let free = subst (λ (m : Mark). IsNew c.args.book.now c.args.hand.now c.args.permit m) (sym c.mark.ensures ∙ c.in-Ticket.is) c.requires.free in
    subst (λ (h : Permits). IsReady c.spend.new.book h) (sym c.in-Err.ensures.err)
    (spend_ready c.args.book.now c.args.hand.now c.in-Ticket.ticket c.args.permit _ (c.spend.ensures.step.0) c.spend.new.book (sym c.mark.ensures ∙ c.in-Ticket.is) free.1
    (rw c.in-Err.ensures.returned at c.spend.ensures.step.1) (rw c.in-Err.ensures.returned at c.spend.ensures.keeps) c.requires.ready)

pub returns-in_default : goal.returns-in_default
returns-in_default c =
    let past = λ (t : ℕ) (e : c.args.permit.mark ≡ mark.Ticket t). c.in_default.not-Ticket t (c.mark.ensures ∙ e) in
    let same = settle_past c.args.permit.mark c.args.book.now c.args.permit _ (c.spend-in_default.ensures.step.0) c.spend-in_default.new.book past c.spend-in_default.ensures.step.1 in
    record {
      book = same;
      hand = sym (with_none c.args.hand.now c.args.permit c.args.permit.mark past);
      ready = subst (λ (s : State). IsReady s c.args.hand.now) (sym same) c.requires.ready;
    }
