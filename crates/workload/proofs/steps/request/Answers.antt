use Rattle.std.proofs.Common.{All, ◌∙◌, ap, refl, subst}
use Rattle.line_base.specs.Told.{entries_told}
use Rattle.workload.specs.Answered.{IsAsReplied}
use Rattle.workload.specs.Between.{first_line, with_answer}
use Rattle.partial_fetch.specs.Causes.{HasCauses}
use Rattle.workload.proofs.Requested.{over_one, since_is, requested}
use Rattle.workload.proofs.steps.request.Goals as goal

pub returns-clause-one : goal.returns-clause-one
returns-clause-one c =
    (over_one c.args.shop.now.lines.items c.run_request.new.lines.items (λ l m. HasCauses l m c.in_ok-answer.answer) c.requires.one c.in_ok-answer.ensures.causes).0

pub returns-clause-ok : goal.returns-clause-ok
returns-clause-ok c =
    let before = c.args.shop.now.lines.items in
    let after = c.run_request.new.lines.items in
    let calls = ap entries_told c.since-calls.ensures
    ∙ since_is (first_line before) (first_line after) c.calls_told-before.result.now c.calls_told.result.now _
    (c.calls_told-before.ensures.told ∙ ap first_line c.as_slice.ensures.value) (c.calls_told.ensures.told ∙ ap first_line c.as_slice-2.ensures.value) refl in
    requested c.args.site.now c.args.drawn c.args.moment c.in_ok-request.request c.args.shop.now.cache c.run_request.new.cache before after c.run_request.new.clock c.in_ok-answer.answer c.args.shop.now.counts c.with_answer-shop.result
    c.in_ok-request.ensures c.requires.one c.in_ok-answer.ensures.ok c.in_ok-answer.ensures.headline c.in_ok-answer.ensures.causes
    (subst (All IsAsReplied) (ap first_line c.as_slice-2.ensures.value) c.calls_told.ensures.replied)
    (c.with_answer-shop.ensures ∙ ap (with_answer c.args.shop.now.counts c.in_ok-answer.answer) calls)
