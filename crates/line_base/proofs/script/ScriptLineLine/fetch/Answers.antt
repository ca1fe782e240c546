use Rattle.std.proofs.Common.{◌≡◌, List, Option, ap, sym, ◌∙◌}
use Rattle.std.specs.Option.{option_copied}
use Rattle.cache_terms.specs.declared.events.Reply.{Reply}
use Rattle.line_base.specs.declared.script.Scripted.{Scripted}
use Rattle.line_base.specs.Foretold.{answer_for, left_for}
use Rattle.line_base.specs.Told.{entries_told}
use Rattle.line_base.proofs.Scripts.{tells_answer}
use Rattle.line_base.proofs.script.ScriptLineLine.fetch.Goals as goal

pub returns-in-Ok-tell-clause-fetches : goal.returns-in-Ok-tell-clause-fetches
returns-in-Ok-tell-clause-fetches c =
    let items = c.self.inside.replies.items in
    let first : ◌≡◌ {A = Option Reply} (option_copied c.peek.result) (answer_for c.args.call.now.sub items) = c.peek.ensures ∙ ap (λ (l : List Scripted). answer_for c.args.call.now.sub l) c.deref.ensures.value in
    let same : ◌≡◌ {A = Option Reply} c.take.result (option_copied c.peek.result) = c.take.ensures.answer ∙ sym first in
    rw (c.answer.ensures, same, c.take.ensures.left, c.in-Ok-tell.ensures.ok, ← c.self.view_is)
    (tells_answer (record { replies = items; log = entries_told c.self.inside.log.items }) c.args.permits.now c.args.call.now (option_copied c.peek.result) c.in-Ok.told first c.in-Ok.ensures)
