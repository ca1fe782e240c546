use Rattle.std.proofs.Common.{◌∙◌, ap, refl}
use Rattle.line_base.specs.Told.{entries_told}
use Rattle.case_run.specs.Texts.{request_text}
use Rattle.case_run.specs.Playing.{script_in}
use Rattle.case_run.proofs.Standing.{since_is}
use Rattle.case_run.proofs.Telling.{tells, told_if}
use Rattle.case_run.proofs.play.tell.Goals as goal

pub returns-clause-told : goal.returns-clause-told
returns-clause-told c =
    let calls = ap entries_told c.since.ensures
    ∙ since_is (script_in c.args.lines.now.items).log (script_in c.run_request.new.lines.items).log c.calls_told-before.result.now c.calls_told.result.now _
    (c.calls_told-before.ensures ∙ ap (λ ls. (script_in ls).log) c.as_slice.ensures.value) (c.calls_told.ensures ∙ ap (λ ls. (script_in ls).log) c.as_slice-2.ensures.value) refl in
    told_if c.request_text.result _ _
    (λ text is. tells c.args.site.now c.args.timed.now c.args.cache.now c.run_request.new.cache c.args.lines.now.items c.run_request.new.lines.items c.run_request.new.clock c.in_ok-answer.answer text
    c.requires.one c.in_ok-answer.ensures.ok c.in_ok-answer.ensures.headline c.in_ok-answer.ensures.causes (is ∙ ap (λ es. request_text es c.in_ok-answer.answer) calls))
    c.request_text.ensures
