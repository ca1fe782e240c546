use Rattle.script_lines.proofs.Numbers.{ticket_parts}
use Rattle.script_lines.proofs.fields.ticket_of.Goals as goal

pub returns-in_err-before : goal.returns-in_err-before
returns-in_err-before c =
    rw c.from_residual.ensures (λ e t h. rw c.in_err-before.was at (ticket_parts c.args.word.now c.split_once.result c.split_once.ensures.cases e t h))

pub returns-in_err-epoch : goal.returns-in_err-epoch
returns-in_err-epoch c =
    rw c.from_residual-in_err-epoch.ensures
    (λ e t h. c.in_err-epoch.ensures e (rw c.in_ok-before.was at (ticket_parts c.args.word.now c.split_once.result c.split_once.ensures.cases e t h)).0)

pub returns-in_err-ticket : goal.returns-in_err-ticket
returns-in_err-ticket c =
    rw c.from_residual-in_err-ticket.ensures
    (λ e t h. c.in_err-ticket.ensures t (rw c.in_ok-before.was at (ticket_parts c.args.word.now c.split_once.result c.split_once.ensures.cases e t h)).1)
