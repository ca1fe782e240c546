use Rattle.std.proofs.Common.{◌<◌, ◌∙◌, length, sym, ap, arith, Some}
use Rattle.std.proofs.lemmas.Option.{slice_get-get_or}
use Rattle.book_tables.proofs.Shelved.{open_unsettled}
use Rattle.book_tables.proofs.tests.is_open.Goals as goal

pub returns-then-at-len : goal.returns-then-at-len
returns-then-at-len c = λ h.
    let less : c.args.ticket < length c.args.tables.now.settled.items = omega (arith, c.if-at-len.true, c.len.ensures, c.args.tables.now.settled.ok.0) in
    open_unsettled c.args.tables.now c.args.events.now c.requires c.args.ticket c.index.result.now less (slice_get-get_or c.args.tables.now.settled.items c.args.ticket c.index.result.now less ∙ sym (ap Some c.index.ensures)) h
