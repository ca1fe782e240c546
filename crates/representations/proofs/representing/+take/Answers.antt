use Rattle.std.proofs.Common.{rules, ◌≡◌, sym, ap, ◌∙◌, arith, map, [], Some, None, ◌≤◌, ◌<◌, suc, List, ℕ, ◌++◌, ◌∷◌}
use Rattle.std.specs.Prelude.{option_and_then}
use Rattle.json_value.specs.Members.{member}
use Rattle.json_paths.specs.declared.needs.Need.{out-Need}
use Rattle.json_value.proofs.Elements.{read}
use Rattle.json_value.specs.declared.tree.Json.TheVariants as json
use Rattle.json_value.specs.Heights.{height, items_height}
use Rattle.json_value.proofs.Heights.{part-height, item-height, height-list}
use Rattle.representations.specs.Represent.{taken, taken_members, all_of, taking, as_list, as_object}
use Rattle.representations.proofs.Taken.{taken-all, taken-null, taken-list, taken-object, taken-other, some_mapped, empty_of, some_of, need_missing, need_taken, item_missing, item_taken}
use Rattle.representations.proofs.representing.+take.Goals as goal

pub take-returns-then-is_empty : goal.take-returns-then-is_empty
take-returns-then-is_empty t c =
    let none : c.args.needs.now ≡ [] = empty_of c.args.needs.now (sym c.is_empty.ensures ∙ c.if-is_empty.true) in
    ap (λ v. Some v) c.in_ok-copy.ensures ∙ sym (ap (λ ns. taken (map taking ns) c.args.value.now) none ∙ taken-all c.args.value.now)

pub take-returns-in-Null : goal.take-returns-in-Null
take-returns-in-Null t c =
    let some = some_mapped taking c.args.needs.now (some_of c.args.needs.now (sym c.is_empty.ensures ∙ c.if-is_empty.false)) in
    sym (ap (taken (map taking c.args.needs.now)) c.in-Null.is ∙ taken-null (map taking c.args.needs.now) some)

pub take-returns-in_default-2 : goal.take-returns-in_default-2
take-returns-in_default-2 t c =
    let some = some_mapped taking c.args.needs.now (some_of c.args.needs.now (sym c.is_empty.ensures ∙ c.if-is_empty.false)) in
    sym (ap (taken (map taking c.args.needs.now)) c.in-List.is ∙ taken-list (map taking c.args.needs.now) c.in-List.items some ∙ ap (λ xs. as_list (all_of (map (taken (map taking c.args.needs.now)) xs))) (sym c.as_slice.ensures) ∙ ap as_list (sym c.in_ok-taken-in-List.ensures ∙ c.in_default-2.is))

pub take-returns-in-Some : goal.take-returns-in-Some
take-returns-in-Some t c =
    let some = some_mapped taking c.args.needs.now (some_of c.args.needs.now (sym c.is_empty.ensures ∙ c.if-is_empty.false)) in
    sym (ap (taken (map taking c.args.needs.now)) c.in-List.is ∙ taken-list (map taking c.args.needs.now) c.in-List.items some ∙ ap (λ xs. as_list (all_of (map (taken (map taking c.args.needs.now)) xs))) (sym c.as_slice.ensures) ∙ ap as_list (sym c.in_ok-taken-in-List.ensures ∙ c.in-Some.is))

pub take-returns-in_default-3 : goal.take-returns-in_default-3
take-returns-in_default-3 t c =
    let some = some_mapped taking c.args.needs.now (some_of c.args.needs.now (sym c.is_empty.ensures ∙ c.if-is_empty.false)) in
    sym (ap (taken (map taking c.args.needs.now)) c.in-Object.is ∙ taken-object (map taking c.args.needs.now) c.in-Object.field-0 some ∙ ap (λ v. as_object (taken_members (map taking c.args.needs.now) v)) (sym c.in-Object.is)
    ∙ ap as_object (sym c.in_ok-taken-in-Object.ensures ∙ c.in_default-3.is))

pub take-returns-in-Some-2 : goal.take-returns-in-Some-2
take-returns-in-Some-2 t c =
    let some = some_mapped taking c.args.needs.now (some_of c.args.needs.now (sym c.is_empty.ensures ∙ c.if-is_empty.false)) in
    sym (ap (taken (map taking c.args.needs.now)) c.in-Object.is ∙ taken-object (map taking c.args.needs.now) c.in-Object.field-0 some ∙ ap (λ v. as_object (taken_members (map taking c.args.needs.now) v)) (sym c.in-Object.is)
    ∙ ap as_object (sym c.in_ok-taken-in-Object.ensures ∙ c.in-Some-2.is))

pub take-returns-in_default : goal.take-returns-in_default
take-returns-in_default t c =
    let some = some_mapped taking c.args.needs.now (some_of c.args.needs.now (sym c.is_empty.ensures ∙ c.if-is_empty.false)) in
    sym (taken-other (map taking c.args.needs.now) c.args.value.now some c.in_default.not-Null c.in_default.not-List c.in_default.not-Object)

pub take-take_items-requires : goal.take-take_items-requires
take-take_items-requires t c =
    let tall : height c.args.value.now ≡ suc (items_height c.in-List.items) = ap height c.in-List.is ∙ height-list c.in-List.items in
    let same : items_height c.as_slice.result.now ≡ items_height c.in-List.items = ap items_height c.as_slice.ensures in
    (omega (arith, tall, same, c.decreases), tt)

pub take_items-take-requires : goal.take_items-take-requires
take_items-take-requires t c =
    let low : height c.item-item.result ≤ items_height c.args.items.now = item-height c.args.items.now c.loop-item.item-index c.item-item.result (read c.args.items.now c.loop-item.item-index c.item-item.result c.loop-item-test.true c.item-item.is) in
    (omega (arith, low, c.decreases), tt)

pub take_members-take-requires : goal.take_members-take-requires
take_members-take-requires t c =
    let low : height c.in-Some.part.now < height c.args.value.now = part-height c.args.value.now c.as_str.result.now c.in-Some.part.now (sym c.in-Some.ensures.value) in
    (omega (arith, low, c.decreases), tt)

pub take_members-returns-in_default : goal.take_members-returns-in_default
take_members-returns-in_default t c =
    need_missing c.args.needs.now c.loop-need.need-index c.need-item.result c.args.value.now c.loop-need.members (taken_members (map taking c.args.needs.now) c.args.value.now) c.loop-need-test.true c.need-item.is
    (ap (option_and_then (taken (map taking (out-Need c.need-item.result).fields))) (c.in_default.ensures.value ∙ ap (member c.args.value.now) c.as_str.ensures)) c.loop-need.invariant

pub take_members-returns-in_default-2 : goal.take_members-returns-in_default-2
take_members-returns-in_default-2 t c =
    need_missing c.args.needs.now c.loop-need.need-index c.need-item.result c.args.value.now c.loop-need.members (taken_members (map taking c.args.needs.now) c.args.value.now) c.loop-need-test.true c.need-item.is
    (sym c.in_default-2.is ∙ c.in_ok-taken.ensures ∙ ap (λ ns. taken (map taking ns) c.in-Some.part.now) c.as_slice.ensures ∙ ap (option_and_then (taken (map taking (out-Need c.need-item.result).fields))) (c.in-Some.ensures.value ∙ ap (member c.args.value.now) c.as_str.ensures)) c.loop-need.invariant

pub take_members-loop-need-preserved : goal.take_members-loop-need-preserved
take_members-loop-need-preserved t c =
    need_taken c.args.needs.now c.loop-need.need-index c.need-item.result c.args.value.now c.in-Some-2.taken c.loop-need.members c.push.new.self (taken_members (map taking c.args.needs.now) c.args.value.now) c.loop-need-test.true c.need-item.is
    (sym c.in-Some-2.is ∙ c.in_ok-taken.ensures ∙ ap (λ ns. taken (map taking ns) c.in-Some.part.now) c.as_slice.ensures ∙ ap (option_and_then (taken (map taking (out-Need c.need-item.result).fields))) (c.in-Some.ensures.value ∙ ap (member c.args.value.now) c.as_str.ensures))
    (c.in_ok-push.ensures.ok ∙ ap (λ (n : List ℕ). c.loop-need.members ++ ((n, c.in-Some-2.taken) ∷ [])) c.in_ok-copy.ensures) c.loop-need.invariant
