use Rattle.std.proofs.Common.{◌≢◌, [], Err}
use Rattle.plan_book.specs.declared.fault.PlanFault.TheVariants as faults
use Rattle.plan_book.specs.PlanFile.{AreEntries}
use Rattle.plan_book.proofs.Noding.{handed}
use Rattle.plan_book.proofs.Entering.{entries_next, entries_stop, entries_end}
use Rattle.plan_book.proofs.plan_file.read_entries.Goals as goal

pub returns-in_err-add_entry-clause-fault : goal.returns-in_err-add_entry-clause-fault
returns-in_err-add_entry-clause-fault c =
    handed (λ f. f ≢ faults.Memory → AreEntries c.args.values.now 0 [] (Err f)) c.from_residual.result c.in_err-add_entry.field-0.0 c.from_residual.ensures.1
    (λ ne. entries_stop c.args.values.now c.loop-i.i c.loop-i.book.entries.items c.loop-i.invariant c.index-values-i.result c.loop-i-test.true c.index-values-i.is c.in_err-add_entry.field-0.0 (c.in_err-add_entry.ensures.fault ne))

pub loop-i-preserved : goal.loop-i-preserved
loop-i-preserved c =
    let next = c.in_ok-add_entry.ensures.entry in
    entries_next c.args.values.now c.loop-i.i c.loop-i.book.entries.items c.loop-i.invariant c.index-values-i.result c.loop-i-test.true c.index-values-i.is next.0 c.add_entry.new.book.entries.items next.1 next.2

pub returns-clause-entries : goal.returns-clause-entries
returns-clause-entries c = entries_end c.args.values.now c.loop-i.i c.loop-i.book.entries.items c.loop-i.invariant c.loop-i-test.false
