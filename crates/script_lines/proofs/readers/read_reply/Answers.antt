use Rattle.std.proofs.Common.{List, ℕ, ◌≡◌, sym, subst, refl, rules, arith}
use Rattle.script_lines.specs.Script.{words}
use Rattle.script_lines.specs.Commands.{IsTicket, IsTagWord, IsOptional, rest_from}
use Rattle.script_lines.proofs.Forms.{no_reply}
use Rattle.script_lines.proofs.Pieces.{rest_joined}
use Rattle.script_lines.proofs.readers.read_reply.Goals as goal

pub returns-in_default : goal.returns-in_default
returns-in_default c = no_reply (words c.args.line.now) c.requires (λ e t s a g v r h. (rw c.in_default.is at c.ticket_of.ensures) e t (subst (λ (w : List ℕ). IsTicket w e t) (sym c.word_at.ensures) h.ticket_is))

pub returns-in_default-2 : goal.returns-in_default-2
returns-in_default-2 c = no_reply (words c.args.line.now) c.requires (λ e t s a g v r h. (rw c.in_default-2.is at c.in_ok-tags.ensures) g (subst (λ (w : List ℕ). IsTagWord w g) (sym c.word_at-3.ensures) h.tags_is))

pub returns : goal.returns
returns c =
    let joined : rest_from (words c.args.line.now) 6 ≡ c.in-Some-rest_after.rest.now = rest_joined c.args.line.now c.in-Some-rest_after.rest.now 6 c.in-Some-rest_after.ensures.rest in
    record {
      counted = omega (arith, c.in-Some-rest_after.ensures.found.0 refl);
      verb_is = c.requires;
      ticket_is = search rules;
      status_is = search rules;
      age_is = search rules;
      tags_is = search rules;
      value_is = search rules;
      cache_control_is = subst (λ (l : List ℕ). IsOptional l c.in_ok-cache_control.cache_control) (sym joined) c.in_ok-cache_control.ensures;
    }
