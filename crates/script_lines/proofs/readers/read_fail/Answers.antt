use Rattle.std.proofs.Common.{List, ℕ, sym, subst}
use Rattle.script_lines.specs.Script.{words}
use Rattle.script_lines.specs.Commands.{IsTicket}
use Rattle.script_lines.proofs.Forms.{no_fail}
use Rattle.script_lines.proofs.readers.read_fail.Goals as goal

pub returns-in_err-epoch : goal.returns-in_err-epoch
returns-in_err-epoch c =
    rw c.from_residual.ensures (no_fail (words c.args.line.now) c.requires.verb_is
    (λ e t h. c.in_err-epoch.ensures e t (subst (λ (l : List ℕ). IsTicket l e t) (sym c.word_at.ensures) h.ticket_is)))
