use Rattle.std.proofs.Common.{List, ℕ, sym, subst}
use Rattle.script_lines.specs.Script.{words}
use Rattle.script_lines.specs.Commands.{IsTicket, IsTagWord}
use Rattle.script_lines.proofs.Forms.{no_settle}
use Rattle.script_lines.proofs.readers.read_settle.Goals as goal

pub returns-in_default : goal.returns-in_default
returns-in_default c = no_settle (words c.args.line.now) c.requires.verb_is (λ e t l a p g v h. (rw c.in_default.is at c.ticket_of.ensures) e t (subst (λ (w : List ℕ). IsTicket w e t) (sym c.word_at.ensures) h.ticket_is))

pub returns-in_default-2 : goal.returns-in_default-2
returns-in_default-2 c = no_settle (words c.args.line.now) c.requires.verb_is (λ e t l a p g v h. (rw c.in_default-2.is at c.in_ok-tags.ensures) g (subst (λ (w : List ℕ). IsTagWord w g) (sym c.word_at-5.ensures) h.tags_is))
