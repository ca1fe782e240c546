use Rattle.std.proofs.Common.{◌≡◌, false, Some, sym}
use Rattle.std.specs.List.{list_any}
use Rattle.cache_terms.specs.declared.events.Mark.TheVariants.{Ticket}
use Rattle.cache_model.specs.Journal.{Started, start_of, settles}
use Rattle.plain_book.specs.Scan.{start_shown}
use Rattle.book_cases.proofs.Owed.{may_settle_by}
use Rattle.book_cases.proofs.settling.may_settle.Goals as goal

pub returns-in-Some : goal.returns-in-Some
returns-in-Some c =
    let s = c.args.book.now in
    let p = c.args.permit.now in
    let ticket = c.in-Ticket.ticket in
    let start : Started = start_shown c.in-Some.start in
    let mark : p.mark ≡ Ticket ticket = cc (c.mark.ensures, c.in-Ticket.is) in
    let started : start_of s.journal ticket ≡ Some start = sym (rw (c.deref-2.ensures.value, c.journal-2.ensures.same) at c.in-Some.ensures) in
    let unsettled : list_any (settles ticket) s.journal ≡ false = cc (c.deref.ensures.value, c.journal.ensures.same, c.is_settled.ensures, c.if-is_settled.false) in
    λ right. may_settle_by s p ticket start mark started unsettled (c.is_start_of.ensures.who right) (c.is_start_of.ensures.key right) (c.is_start_of.ensures.named right)
