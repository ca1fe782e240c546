use Rattle.std.proofs.Common.{rules, sym, ◌∙◌, ap, arith, ◌≤◌, ◌≡◌, set, suc, length, inl, inr, get_or}
use Rattle.json_value.specs.declared.tree.Json.{Json}
use Rattle.json_value.specs.declared.tree.Json.TheVariants as json
use Rattle.json_value.specs.Heights.{height, items_height, members_height}
use Rattle.json_value.proofs.Heights.{item-height, member-height, height-list, height-object}
use Rattle.std.proofs.lemmas.List.{set-set}
use Rattle.std.proofs.lemmas.Bool.{cases_lt}
use Rattle.merge_paths.specs.Taking.{not_taken}
use Rattle.merge_paths.proofs.Lists.{same_there}
use Rattle.merge_paths.proofs.Equations.{merge-null, merge-objects, merge-lists, merge-object, merge-list, merge-other}
use Rattle.merge_paths.proofs.Progress.{element_done, rest_begins, rest_goes_on, member_taken, member_alone, all_merged}
use Rattle.merge_paths.proofs.merging.+merge.Goals as goal

pub merge-returns-in-Null : goal.merge-returns-in-Null
merge-returns-in-Null t c = rw c.in-Null.is (sym (merge-null c.args.a))

pub merge-returns-in-Object-a : goal.merge-returns-in-Object-a
merge-returns-in-Object-a t c = rw (c.in-Object.is, c.in-Object-a.is, c.in_ok-merge_members-in-Object-a.ensures) (sym (merge-objects c.in-Object-a.members c.in-Object.others))

pub merge-returns-in-Object : goal.merge-returns-in-Object
merge-returns-in-Object t c = rw c.in-Object.is (sym (merge-object c.args.a c.in-Object.others c.in_default-a.not-Object))

pub merge-returns-in-List-a : goal.merge-returns-in-List-a
merge-returns-in-List-a t c = rw (c.in-List.is, c.in-List-a.is, c.in_ok-merge_elements-in-List-a.ensures) (sym (merge-lists c.in-List-a.items c.in-List.others))

pub merge-returns-in-List : goal.merge-returns-in-List
merge-returns-in-List t c = rw c.in-List.is (sym (merge-list c.args.a c.in-List.others c.in_default-a-2.not-List))

pub merge-returns : goal.merge-returns
merge-returns t c = sym (merge-other c.args.a c.args.b c.in_default.not-Null c.in_default.not-List c.in_default.not-Object)

pub merge_elements-merge-requires : goal.merge_elements-merge-requires
merge_elements-merge-requires t c =
    let low : height c.replace-value.result ≤ items_height c.args.a = item-height c.args.a c.loop-i.i c.replace-value.result (same_there c.loop-i.a c.args.a c.loop-i.i c.replace-value.result c.loop-i.invariant.ahead c.replace-value.ensures.item) in
    (omega (arith, low, c.decreases), tt)

pub merge_elements-loop-i-preserved : goal.merge_elements-loop-i-preserved
merge_elements-loop-i-preserved t c =
    element_done c.loop-i.a c.set.new.self c.args.a c.loop-i.b c.replace-other.new.self c.args.b _ c.loop-i.i c.replace-value.result c.replace-other.result c.in_ok-merged.merged json.Null
    c.replace-value.ensures.item c.replace-other.ensures.item (c.set.ensures ∙ ap (λ xs. set xs c.loop-i.i c.in_ok-merged.merged) c.replace-value.ensures.rest ∙ set-set c.loop-i.a c.loop-i.i json.Null c.in_ok-merged.merged)
    c.replace-other.ensures.rest c.in_ok-merged.ensures c.loop-i.invariant

pub merge_elements-loop-i-2-init : goal.merge_elements-loop-i-2-init
merge_elements-loop-i-2-init t c =
    let ended : c.loop-i.i ≡ c.min-shared.result = omega (arith, c.loop-i-test.false, c.loop-i.auto.i-end) in
    rest_begins c.loop-i.a c.args.a c.loop-i.b c.args.b _ c.min-shared.result (elim (cases_lt (length c.args.a) (length c.args.b)) [ inl less ↦ inl (omega (arith, c.min-shared.ensures, c.len.ensures, c.len-2.ensures)) | inr more ↦ inr (omega (arith, c.min-shared.ensures, c.len.ensures, c.len-2.ensures)) ]) (rw (← ended) c.loop-i.invariant)

pub merge_elements-loop-i-2-preserved : goal.merge_elements-loop-i-2-preserved
merge_elements-loop-i-2-preserved t c =
    rest_goes_on c.loop-i-2.a c.push.new.self c.loop-i-2.b c.replace.new.self c.args.b _ c.loop-i-2.i c.replace.result json.Null c.replace.ensures.item c.replace.ensures.rest (c.in_ok-push.ensures.ok) c.loop-i-2.invariant

pub merge_members-merge-requires : goal.merge_members-merge-requires
merge_members-merge-requires t c =
    let low : height c.replace-name.result.1 ≤ members_height c.args.a = member-height c.args.a c.loop-i.i c.replace-name.result (same_there c.loop-i.a c.args.a c.loop-i.i c.replace-name.result c.loop-i.invariant.done.ahead c.replace-name.ensures.item) in
    (omega (arith, low, c.decreases), tt)

pub merge_members-loop-i-preserved : goal.merge_members-loop-i-preserved
merge_members-loop-i-preserved t c = record {
  done = member_taken c.loop-i.a c.set.new.self c.args.a (not_taken c.loop-i.others) (not_taken c.take.new.self) _ c.loop-i.i c.replace-name.result (get_or c.as_slice.result.now c.loop-i.i c.index-as_slice-i.result).0 (c.replace-name.result.0, c.in_ok-merged.merged) c.blank.result c.index-as_slice-i.result c.in-Some.other
      c.replace-name.ensures.item (ap (λ xs. (get_or xs c.loop-i.i c.index-as_slice-i.result).0) c.as_slice.ensures) c.in-Some.ensures.value c.in-Some.ensures.rest
      (c.set.ensures ∙ ap (λ xs. set xs c.loop-i.i (c.replace-name.result.0, c.in_ok-merged.merged)) c.replace-name.ensures.rest)
      (ap (λ (v : Json). (c.replace-name.result.0, v)) c.in_ok-merged.ensures) c.loop-i.invariant.done;
  indexed = c.in-Some.ensures.indexed;
}

pub merge_members-loop-i-preserved-in_default : goal.merge_members-loop-i-preserved-in_default
merge_members-loop-i-preserved-in_default t c = record {
  done = member_alone c.loop-i.a c.args.a (not_taken c.loop-i.others) (not_taken c.take.new.self) _ c.loop-i.i c.index-as_slice-i.result c.index-as_slice-i.result (get_or c.as_slice.result.now c.loop-i.i c.index-as_slice-i.result).0
      (omega (arith, c.loop-i-test.true, c.len-i-end.ensures, c.loop-i.invariant.done.long)) (ap (λ xs. (get_or xs c.loop-i.i c.index-as_slice-i.result).0) c.as_slice.ensures) c.in_default.ensures.value c.in_default.ensures.rest c.loop-i.invariant.done;
  indexed = c.in_default.ensures.indexed;
}

pub merge-merge_members-requires : goal.merge-merge_members-requires
merge-merge_members-requires t c =
    let tall : height c.args.a ≡ suc (members_height c.in-Object-a.members) = ap height c.in-Object-a.is ∙ height-object c.in-Object-a.members in
    (omega (arith, tall, c.decreases), tt)

pub merge-merge_elements-requires : goal.merge-merge_elements-requires
merge-merge_elements-requires t c =
    let tall : height c.args.a ≡ suc (items_height c.in-List-a.items) = ap height c.in-List-a.is ∙ height-list c.in-List-a.items in
    (omega (arith, tall, c.decreases), tt)
