use Rattle.std.proofs.Common.{◌≡◌, sym, ap, ◌∙◌, arith, Some, ◌≤◌, ◌<◌, suc, List, ℕ, true, false}
use Rattle.std.specs.Prelude.{codes}
use Rattle.json_value.proofs.Elements.{read}
use Rattle.json_value.specs.Heights.{height, items_height}
use Rattle.json_value.proofs.Heights.{part-height, item-height, height-list}
use Rattle.plan_book.specs.Forms.{are_needs}
use Rattle.plan_book.proofs.Needing.{need_some, need_unnamed, need_unformed, needs-other, needs_kept, needs_refused, needs_missing}
use Rattle.plan_book.proofs.needs.+need.Goals as goal

pub each_need-need-requires : goal.each_need-need-requires
each_need-need-requires t c =
    let low : height c.value-item.result ≤ items_height c.args.values.now = item-height c.args.values.now c.loop-value.value-index c.value-item.result (read c.args.values.now c.loop-value.value-index c.value-item.result c.loop-value-test.true c.value-item.is) in
    (omega (arith, low, c.decreases), tt)

pub fields-needs-requires : goal.fields-needs-requires
fields-needs-requires t c =
    let low : height c.in-Some.part.now < height c.args.value.now = part-height c.args.value.now (codes "fields") c.in-Some.part.now (sym c.in-Some.ensures.value) in
    (omega (arith, low, c.decreases), tt)

pub needs-each_need-requires : goal.needs-each_need-requires
needs-each_need-requires t c =
    let tall : height c.args.value.now ≡ suc (items_height c.in-List.items) = ap height c.in-List.is ∙ height-list c.in-List.items in
    let same : items_height c.as_slice.result.now ≡ items_height c.in-List.items = ap items_height c.as_slice.ensures in
    (omega (arith, tall, same, c.decreases), tt)

pub need-returns-in_default : goal.need-returns-in_default
need-returns-in_default t c = sym (need_unnamed c.args.value.now (sym c.in_default.ensures))

pub need-returns-in_ok-copy-in-Some-2 : goal.need-returns-in_ok-copy-in-Some-2
need-returns-in_ok-copy-in-Some-2 t c =
    sym (need_some c.args.value.now c.in_ok-copy-in-Some-2.field-0 c.in-Some-2.fields (sym c.in-Some.ensures ∙ ap (λ (n : List ℕ). Some n) (sym c.in_ok-copy-in-Some-2.ensures)) (sym c.in_ok-fields.ensures ∙ c.in-Some-2.is))

pub need-returns-in-None : goal.need-returns-in-None
need-returns-in-None t c = sym (need_unformed c.args.value.now c.in-Some.name.now (sym c.in-Some.ensures) (sym c.in_ok-fields.ensures ∙ c.in-None.is))

pub needs-returns-then-are_needs : goal.needs-returns-then-are_needs
needs-returns-then-are_needs t c =
    let fit : are_needs c.in-Some.made ≡ true = sym (ap are_needs c.as_slice-in-Some.ensures) ∙ sym c.are_needs.ensures ∙ c.if-are_needs.true in
    sym (needs_kept c.args.value.now c.in-List.items c.as_slice.result.now c.in-List.is c.as_slice.ensures c.in-Some.made (sym c.in_ok-made-in-List.ensures ∙ c.in-Some.is) fit)

pub needs-returns-else-are_needs : goal.needs-returns-else-are_needs
needs-returns-else-are_needs t c =
    let fit : are_needs c.in-Some.made ≡ false = sym (ap are_needs c.as_slice-in-Some.ensures) ∙ sym c.are_needs.ensures ∙ c.if-are_needs.false in
    sym (needs_refused c.args.value.now c.in-List.items c.as_slice.result.now c.in-List.is c.as_slice.ensures c.in-Some.made (sym c.in_ok-made-in-List.ensures ∙ c.in-Some.is) fit)

pub needs-returns-in-None : goal.needs-returns-in-None
needs-returns-in-None t c = sym (needs_missing c.args.value.now c.in-List.items c.as_slice.result.now c.in-List.is c.as_slice.ensures (sym c.in_ok-made-in-List.ensures ∙ c.in-None.is))

pub needs-returns-in_default : goal.needs-returns-in_default
needs-returns-in_default t c = sym (needs-other c.args.value.now c.in_default.not-List)
