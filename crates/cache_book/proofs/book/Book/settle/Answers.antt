use Rattle.cache_book.specs.Settling.{got_by, probes_after}
use Rattle.cache_book.proofs.Owing.{others_kept}
use Rattle.cache_book.proofs.Spending.{settles_owed}
use Rattle.cache_book.proofs.book.Book.settle.Goals as goal

pub returns-clause-step : goal.returns-clause-step
returns-clause-step c =
    let may = rw (← c.self.view_is, ← c.permit.view_is) at c.requires.may in
    rw (← c.self.view_is, ← c.permit.view_is, c.append_settle-outcome.ensures.limits, c.append_settle-outcome.ensures.after, c.append_settle-outcome.ensures.probes, c.len-position.ensures)
    (settles_owed c.self.inside.journal.limits c.self.inside.epoch c.self.inside.journal.probes c.self.inside.journal.events (record { who = c.permit.inside.who; epoch = c.permit.inside.epoch; mark = c.permit.inside.mark; key = c.permit.inside.key; named = c.permit.inside.named })
    c.args.fill.report c.in-Ticket.ticket c.append_settle-outcome.result c.in-Ticket.is c.if-epoch-self.false may c.append_settle-outcome.ensures.due)

pub returns-clause-keeps : goal.returns-clause-keeps
returns-clause-keeps c =
    rw (← c.self.view_is, ← c.permit.view_is, c.append_settle-outcome.ensures.limits, c.append_settle-outcome.ensures.after, c.append_settle-outcome.ensures.probes)
    (others_kept c.self.inside.journal.limits c.self.inside.epoch c.self.inside.journal.probes (probes_after c.self.inside.journal.probes c.args.fill.report c.append_settle-outcome.result) c.self.inside.journal.events c.permit.inside.who c.in-Ticket.ticket (got_by c.args.fill.report c.append_settle-outcome.result) c.append_settle-outcome.result
    (record { who = c.permit.inside.who; epoch = c.permit.inside.epoch; mark = c.permit.inside.mark; key = c.permit.inside.key; named = c.permit.inside.named }) c.in-Ticket.is c.if-epoch-self.false)
