use Rattle.book_tables.proofs.Covering.{counted}
use Rattle.book_tables.proofs.voiding.drop_all.Goals as goal

pub returns-clause-count : goal.returns-clause-count
returns-clause-count c =
    let J = c.args.events.now in
    rw c.under-count.ensures.positions (counted J c.args.target.now c.args.holders.now c.requires.targeted (rw (← c.under-count.ensures.positions) c.under-count.ensures.once))
