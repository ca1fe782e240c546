use Rattle.std.proofs.Common.{◌≡◌, ◌≢◌, ◌<◌, ◌≤◌, length, Option, sym, ap, ◌∙◌, arith}
use Rattle.std.specs.Option.{option_copied}
use Rattle.cache_terms.specs.declared.events.Reply.{Reply}
use Rattle.line_base.specs.declared.script.Scripted.{Scripted}
use Rattle.line_base.proofs.Scripts.{none_step, none_at_all, first_answer, no_answer, same_element}
use Rattle.line_base.proofs.script.peek.Goals as goal

pub returns-then-replies-i : goal.returns-then-replies-i
returns-then-replies-i c =
    let xs = c.args.replies.now in
    let i = c.loop-i.i in
    let x = c.index-replies-i.result in
    let y = c.index-replies-i-then-replies-i.result in
    let less : i < length xs = omega (arith, c.loop-i-test.true) in
    let here : x.sub ≡ c.args.sub = ap (λ (s : Scripted). s.sub) c.index-replies-i.is ∙ c.if-replies-i.true in
    let read : ◌≡◌ {A = Option Reply} (option_copied c.as_ref.result) y.reply = cc (c.as_ref.ensures.value, c.index-replies-i-then-replies-i.is) in
    read ∙ ap (λ (s : Scripted). s.reply) (same_element xs i y x less c.index-replies-i-then-replies-i.is c.index-replies-i.is) ∙ sym (first_answer c.args.sub i xs x less c.index-replies-i.is c.loop-i.invariant here)

pub loop-i-preserved : goal.loop-i-preserved
loop-i-preserved c =
    let xs = c.args.replies.now in
    let i = c.loop-i.i in
    let x = c.index-replies-i.result in
    let less : i < length xs = omega (arith, c.loop-i-test.true) in
    let other : x.sub ≢ c.args.sub = λ h. c.if-replies-i.false (sym (ap (λ (s : Scripted). s.sub) c.index-replies-i.is) ∙ h) in
    none_step c.args.sub i xs x less c.index-replies-i.is c.loop-i.invariant other

pub returns : goal.returns
returns c =
    let past : length c.args.replies.now ≤ c.loop-i.i = omega (arith, c.loop-i-test.false) in
    sym (no_answer c.args.sub c.args.replies.now (none_at_all c.args.sub c.loop-i.i c.args.replies.now past c.loop-i.invariant))
