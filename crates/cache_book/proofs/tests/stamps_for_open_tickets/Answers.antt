use Rattle.std.proofs.Common.{◌≡◌, ℕ, arith}
use Rattle.cache_book.proofs.tests.stamps_for_open_tickets.Goals as goal

pub begun-earlier-requires-2 : goal.begun-earlier-requires-2
begun-earlier-requires-2 g c =
    let earlier = c.begun-earlier.result in
    c.look-found-2.ensures.keeps earlier (c.void-3.ensures earlier c.begun-earlier.ensures.begun c.begun-earlier.ensures.may)

pub settle-requires-2-clause-may : goal.settle-requires-2-clause-may
settle-requires-2-clause-may g c =
    let later = c.missed-later.result in
    c.settle.ensures later (λ same epoch.
    let tickets : ◌≡◌ {A = ℕ} 0 1 = cc (same, c.missed-earlier.ensures.ticket, c.begun-earlier.ensures.mark, c.begun-earlier-2.ensures.mark, c.missed-later.ensures.ticket) in
    absurd (omega arith)) (c.void-4.ensures later c.missed-later.ensures.begun c.missed-later.ensures.may)

pub settle-requires-clause-may : goal.settle-requires-clause-may
settle-requires-clause-may g c =
    let earlier = c.begun-earlier-2.result in
    c.void-4.ensures earlier c.begun-earlier-2.ensures.begun c.begun-earlier-2.ensures.may
