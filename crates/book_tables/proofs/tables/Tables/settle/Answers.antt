use Rattle.std.proofs.Common.{◌∙◌, ap, length, arith}
use Rattle.std.specs.Option.{option_copied}
use Rattle.cache_model.proofs.Sound.{bytes_within}
use Rattle.cache_model.proofs.Tickets.{ticket_below}
use Rattle.book_tables.specs.Closing.{got_by}
use Rattle.book_tables.proofs.Judged.{settle_stands, pending_some}
use Rattle.book_tables.proofs.tables.Tables.settle.Goals as goal

pub fill-outcome-requires-clause-within : goal.fill-outcome-requires-clause-within
fill-outcome-requires-clause-within c = bytes_within c.args.limits c.args.events.now c.requires.legal.each

pub close-requires-clause-within : goal.close-requires-clause-within
close-requires-clause-within c = omega (arith, ap (λ v. length v.items) c.fill-outcome.ensures.tickets.settled, c.requires.stands.count_settled, ticket_below c.args.limits c.args.events.now c.requires.legal.each c.args.ticket (c.requires.unsettled.0) c.requires.unsettled.1.started)

pub close-requires-clause-some : goal.close-requires-clause-some
close-requires-clause-some c = pending_some c.args.limits c.args.events.now c.requires.legal.each c.args.ticket (c.requires.unsettled.0) (c.requires.unsettled.1) c.fill-outcome.new.self.pending (c.fill-outcome.ensures.tickets.pending ∙ c.requires.stands.pending)

pub returns-clause-stands : goal.returns-clause-stands
returns-clause-stands c = settle_stands c.args.limits c.args.events.now c.requires.legal.each c.args.ticket (c.requires.unsettled.0) (c.requires.unsettled.1) c.args.self.now c.fill-outcome.new.self c.close.new.self c.requires.stands c.fill-outcome.ensures.tickets
    (got_by (option_copied c.args.offer) c.fill-outcome.result) c.fill-outcome.result c.fill-outcome.ensures.filled c.close.ensures.closes c.close.ensures.pieces
