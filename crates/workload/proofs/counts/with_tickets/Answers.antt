use Rattle.std.proofs.Common.{ap, ◌∙◌, arith}
use Rattle.std.specs.Prelude.{count_by}
use Rattle.workload.specs.Between.{is_ticketed}
use Rattle.workload.proofs.Ticketing.{tickets_step, tickets_end}
use Rattle.workload.proofs.counts.with_tickets.Goals as goal

pub loop-told-preserved : goal.loop-told-preserved
loop-told-preserved c = record {
  whole = tickets_step c.args.calls.now c.loop-told.told-index c.told-item.result c.loop-told.sum c.tickets.result c.saturating_add-sum.result _ c.loop-told-test.true c.told-item.is
      (c.tickets.ensures ∙ ap (count_by is_ticketed) c.deref.ensures.value) c.saturating_add-sum.ensures c.loop-told.invariant.whole;
  fits = omega (arith, c.saturating_add-sum.type_inv);
}

pub returns : goal.returns
returns c = tickets_end c.args.calls.now c.loop-told.told-index c.loop-told.sum _ (omega (arith, c.loop-told-test.false)) c.loop-told.invariant.fits c.loop-told.invariant.whole
