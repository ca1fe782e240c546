use Rattle.std.proofs.Common.{◌-◌, true, slice_set, arith, refl}
use Rattle.std.specs.Vec.{with_item}
use Rattle.std.proofs.lemmas.List.{length-set}
use Rattle.book_tables.specs.declared.tables.Tables.{Tables}
use Rattle.book_tables.specs.Halves.{StampsLeft}
use Rattle.book_tables.specs.Standing.{IsOldest}
use Rattle.book_tables.proofs.Closed.{closed, set_this, set_other}
use Rattle.book_tables.proofs.tables.Tables.close.Goals as goal

pub returns-clause-closes : goal.returns-clause-closes
returns-clause-closes c = λ J regular h owed who got out.
    let old : Tables = c.args.self.now in
    let new : Tables = record { starts = old.starts; settled = with_item old.settled c.args.ticket true; oldest = c.first_open-oldest.result; pending = old.pending - 1; bytes = old.bytes; keys = old.keys; holders = old.holders; stamps = c.forget.new.stamps } in
    let oldest : IsOldest (slice_set old.settled.items c.args.ticket true) c.first_open-oldest.result = rw (← c.deref.ensures.value) c.first_open-oldest.ensures.oldest in
    let left : StampsLeft old.starts.items old.oldest c.first_open-oldest.result old.stamps.stamps c.forget.new.stamps.stamps = rw (← c.deref-2.ensures.value) c.forget.ensures.left in
    closed (regular.0) J (regular.1) c.args.ticket (owed.0) (owed.1) old h new refl (length-set old.settled.items c.args.ticket true) (set_this old.settled.items c.args.ticket true c.requires.within) (λ u other. set_other old.settled.items c.args.ticket true u other)
    c.first_open-oldest.ensures.later oldest (omega (arith, c.requires.some)) left c.forget.ensures.few c.forget.ensures.limit refl who got out
