use Rattle.std.proofs.Common.{◌≡◌, ◌≢◌, ◌+◌, ◌<◌, ◌≤◌, ◌++◌, List, length, take, drop, get_or, sym, ap, subst, ◌∙◌, arith}
use Rattle.line_base.specs.declared.script.Scripted.{Scripted}
use Rattle.line_base.proofs.Scripts.{none_step, none_at_all, first_answer, first_left, no_answer, all_left, same_element}
use Rattle.line_base.proofs.script.take.Goals as goal

pub returns-then-index-sub-clause-answer : goal.returns-then-index-sub-clause-answer
returns-then-index-sub-clause-answer c =
    let xs = c.args.replies.now.items in
    let i = c.loop-i.i in
    let same : c.loop-i.replies.items ≡ xs = c.loop-i.invariant.same in
    let y = c.index.result.now in
    let y_is : y ≡ get_or xs i y = c.index.ensures ∙ ap (λ (l : List Scripted). get_or l i y) same in
    let less : i < length xs = subst (λ (l : List Scripted). i < length l) same (omega (arith, c.loop-i-test.true, c.len-i-end.ensures, c.loop-i.replies.ok.0)) in
    let here : y.sub ≡ c.args.sub = omega (arith, c.if-index-sub.true) in
    let x = c.remove.result in
    let x_is : x ≡ get_or xs i x = c.remove.ensures.value ∙ ap (λ (l : List Scripted). get_or l i x) same in
    ap (λ (s : Scripted). s.reply) (same_element xs i x y less x_is y_is) ∙ sym (first_answer c.args.sub i xs y less y_is c.loop-i.invariant.none here)

pub returns-then-index-sub-clause-left : goal.returns-then-index-sub-clause-left
returns-then-index-sub-clause-left c =
    let xs = c.args.replies.now.items in
    let i = c.loop-i.i in
    let same : c.loop-i.replies.items ≡ xs = c.loop-i.invariant.same in
    let y = c.index.result.now in
    let y_is : y ≡ get_or xs i y = c.index.ensures ∙ ap (λ (l : List Scripted). get_or l i y) same in
    let less : i < length xs = subst (λ (l : List Scripted). i < length l) same (omega (arith, c.loop-i-test.true, c.len-i-end.ensures, c.loop-i.replies.ok.0)) in
    let here : y.sub ≡ c.args.sub = omega (arith, c.if-index-sub.true) in
    c.remove.ensures.by_index.2 ∙ ap (λ (l : List Scripted). take i l ++ drop (i + 1) l) same ∙ sym (first_left c.args.sub i xs y less y_is c.loop-i.invariant.none here)

pub loop-i-preserved : goal.loop-i-preserved
loop-i-preserved c =
    let xs = c.args.replies.now.items in
    let i = c.loop-i.i in
    let same : c.loop-i.replies.items ≡ xs = c.loop-i.invariant.same in
    let y = c.index.result.now in
    let y_is : y ≡ get_or xs i y = c.index.ensures ∙ ap (λ (l : List Scripted). get_or l i y) same in
    let less : i < length xs = subst (λ (l : List Scripted). i < length l) same (omega (arith, c.loop-i-test.true, c.len-i-end.ensures, c.loop-i.replies.ok.0)) in
    let other : y.sub ≢ c.args.sub = c.if-index-sub.false in
    record { same = same; none = none_step c.args.sub i xs y less y_is c.loop-i.invariant.none other }

pub returns-clause-answer : goal.returns-clause-answer
returns-clause-answer c =
    let xs = c.args.replies.now.items in
    let past : length xs ≤ c.loop-i.i = subst (λ (l : List Scripted). length l ≤ c.loop-i.i) c.loop-i.invariant.same (omega (arith, c.loop-i-test.false, c.len-i-end.ensures, c.loop-i.replies.ok.0)) in
    sym (no_answer c.args.sub xs (none_at_all c.args.sub c.loop-i.i xs past c.loop-i.invariant.none))

pub returns-clause-left : goal.returns-clause-left
returns-clause-left c =
    let xs = c.args.replies.now.items in
    let past : length xs ≤ c.loop-i.i = subst (λ (l : List Scripted). length l ≤ c.loop-i.i) c.loop-i.invariant.same (omega (arith, c.loop-i-test.false, c.len-i-end.ensures, c.loop-i.replies.ok.0)) in
    c.loop-i.invariant.same ∙ sym (all_left c.args.sub xs (none_at_all c.args.sub c.loop-i.i xs past c.loop-i.invariant.none))
