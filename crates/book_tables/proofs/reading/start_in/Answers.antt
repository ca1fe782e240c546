use Rattle.std.proofs.Common.{◌≡◌, ◌∙◌, slice_get, Some, sym, ap}
use Rattle.std.proofs.lemmas.Option.{slice_get-get_or}
use Rattle.book_tables.proofs.Finding.{start_found}
use Rattle.book_tables.proofs.reading.start_in.Goals as goal

pub returns : goal.returns
returns c =
    let at : slice_get c.args.starts.now c.args.ticket ≡ Some c.in_ok-at.field-0.now = slice_get-get_or c.args.starts.now c.args.ticket c.in_ok-at.field-0.now c.in_ok-at.ensures.lookup.3.0 ∙ sym (ap Some c.in_ok-at.ensures.lookup.1) in
    c.start_at.ensures ∙ start_found c.args.starts.now c.args.events.now c.requires c.args.ticket c.in_ok-at.field-0.now at
