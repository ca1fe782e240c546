use Rattle.std.proofs.Common.{subst}
use Rattle.cache_terms.specs.declared.offers.Offer.{Offer}
use Rattle.cache_book.specs.declared.permit.Report.TheVariants as report
use Rattle.rehearsal.specs.Answering.{CarriesSettle}
use Rattle.rehearsal.proofs.Playing.{carries_reply}
use Rattle.rehearsal.proofs.stage.Stage.carry_out.Goals as goal

pub returns-in-Reply : goal.returns-in-Reply
returns-in-Reply c =
    let is = rw (c.as_ref.ensures.value, c.as_ref-in-Reply.ensures.value) at c.replied-offer.ensures.verdict in
    let settled = subst (λ (o : Offer). CarriesSettle c.args.self.now c.in-Reply.epoch c.in-Reply.ticket (report.Got o) c.settle-in-Reply.result c.settle-in-Reply.new.self) c.replied-offer.ensures.offer c.settle-in-Reply.ensures in
    rw c.in-Reply.is (carries_reply c.args.self.now c.in-Reply.epoch c.in-Reply.ticket c.in-Reply.status c.in-Reply.age c.in-Reply.tags c.in-Reply.value c.in-Reply.cache_control
    c.replied-offer.result.verdict c.settle-in-Reply.result c.settle-in-Reply.new.self is settled)
