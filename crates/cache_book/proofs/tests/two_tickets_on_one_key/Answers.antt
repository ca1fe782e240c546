use Rattle.std.proofs.Common.{◌≡◌, ℕ, arith}
use Rattle.cache_book.proofs.tests.two_tickets_on_one_key.Goals as goal

pub settle-requires-2-clause-may : goal.settle-requires-2-clause-may
settle-requires-2-clause-may g c =
    let earlier = c.missed-earlier.result in
    c.settle.ensures earlier (λ same epoch. let tickets : ◌≡◌ {A = ℕ} 0 1 = cc (same, c.missed-earlier.ensures.ticket, c.missed-later.ensures.ticket) in absurd (omega arith)) (c.look-found-2.ensures.keeps earlier c.missed-earlier.ensures.may)
