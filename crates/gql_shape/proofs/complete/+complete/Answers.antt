use Rattle.std.proofs.Common.{◌≡◌, ℕ, ◌<◌, ◌≤◌, List, [], ◌∷◌, ◌++◌, get_or, Some, None, Vec, Global, Result, Ok, Err, IfOk, OnOk, rules, sym, ap, ◌∙◌, refl, length, take, arith}
use Rattle.std.proofs.Math.ListN.{get_or-append}
use Rattle.std.proofs.lemmas.List.{get_or-take, length-take-le}
use Rattle.std.specs.Option.{option_copied}
use Rattle.json_value.specs.declared.tree.Json.TheVariants as j
use Rattle.json_value.specs.Members.{named}
use Rattle.json_paths.specs.declared.path.Spot.{Spot}
use Rattle.json_paths.specs.declared.path.Spot.TheVariants as spot
use Rattle.gql_shape.proofs.Members.{named-at, named-none}
use Rattle.gql_leaves.specs.Bares.{bare}
use Rattle.gql_shape.specs.Completing as spec
use Rattle.gql_shape.specs.Completing.{Completes, IsLeft, selections_of, list_type, composite_type, by_element, by_field}
use Rattle.gql_shape.specs.declared.known.Stretch.{Stretch}
use Rattle.gql_types.specs.declared.definition.TypeDef.{TypeDef}
use Rattle.gql_shape.specs.Terms.{Group}
use Rattle.gql_shape.specs.Kept.{shown_rule, CompletesField, base_of, member_of}
use Rattle.gql_shape.proofs.Kept.{is-type_name, is-unknown, is-typed, no-member, a-member}
use Rattle.gql_shape.specs.Indexed.{Collections, selections_at, groups_in, IsStretch, Extends}
use Rattle.gql_shape.proofs.Indexed.{selections-of, extends-none, extends-on, extends-within, extends-selections, rule-there}
use Rattle.gql_shape.proofs.Rules as rules
use Rattle.gql_shape.proofs.Running as run
use Rattle.gql_shape.proofs.complete.+complete.Goals as goal
use Rattle.gql_shape.proofs.complete.+complete.Goals.{complete_fields-in-TypeName+in_ok-copy-in-TypeName+in_ok-copy-in-TypeName-2+in_ok-push-in-TypeName, complete_fields-in-Unknown, complete_fields-in-Typed+in_ok-member-in-Typed+in_ok-append-in-Typed+in-Some+in_ok-push-in-Some}

IfOk-map : {A E : Type 0} {P Q : A → Type 0} (r : Result A E) → IfOk r P → ((x : A) → P x → Q x) → IfOk r Q
IfOk-map (Ok v) h f = f v h
IfOk-map (Err e) h f = tt

-- what is not changed
unchanged : {A E : Type 0} (r : Result A E) (c : Collections) → OnOk r (Extends c c)
unchanged (Ok v) c = extends-none c
unchanged (Err e) c = tt

pub complete-returns-in-Null-clause-extends : goal.complete-returns-in-Null-clause-extends
complete-returns-in-Null-clause-extends t c = unchanged c.complete_null.result c.args.collected.now

pub complete-returns-in-None-clause-extends : goal.complete-returns-in-None-clause-extends
complete-returns-in-None-clause-extends t c = unchanged c.complete_plain.result c.args.collected.now

pub complete-returns-in-None-composite_type-clause-extends : goal.complete-returns-in-None-composite_type-clause-extends
complete-returns-in-None-composite_type-clause-extends t c = unchanged c.complete_plain-in-None-composite_type.result c.args.collected.now

pub complete-returns-in-Bool-clause-extends : goal.complete-returns-in-Bool-clause-extends
complete-returns-in-Bool-clause-extends t c = unchanged c.complete_plain-in-Bool.result c.args.collected.now

pub complete-returns-in-Number-clause-extends : goal.complete-returns-in-Number-clause-extends
complete-returns-in-Number-clause-extends t c = unchanged c.complete_plain-in-Number.result c.args.collected.now

pub complete-returns-in-Str-clause-extends : goal.complete-returns-in-Str-clause-extends
complete-returns-in-Str-clause-extends t c = unchanged c.complete_plain-in-Str.result c.args.collected.now

pub complete-returns-in-Some-clause-completed : goal.complete-returns-in-Some-clause-completed
complete-returns-in-Some-clause-completed t c =
    let found : list_type (bare c.args.of.now) ≡ Some c.in-Some.inner.now = sym c.element_type.ensures.listed ∙ ap option_copied c.in-Some.is in
    let rule = rules.rule-list c.args.collected.now.scope.schema c.args.of.now c.args.value.now c.as_slice-in-Some.result.now c.in-Some.inner.now (cc) found in
    IfOk-map c.complete_list.result c.complete_list.ensures.settled (λ d h. rules.settled c.args.collected.now.scope c.args.of.now (selections_at c.args.collected.now.groups c.args.at) c.args.value.now c.args.spots.now.items _ d.value d.errors rule h)

pub complete-returns-in-None-clause-completed : goal.complete-returns-in-None-clause-completed
complete-returns-in-None-clause-completed t c =
    let found : list_type (bare c.args.of.now) ≡ None = sym c.element_type.ensures.listed ∙ ap option_copied c.in-None.is in
    let rule = rules.rule-no_list c.args.collected.now.scope.schema c.args.of.now c.args.value.now c.in-List.items c.in-List.is found in
    IfOk-map c.complete_plain.result c.complete_plain.ensures (λ d h. rules.settled_plain c.args.collected.now.scope c.args.of.now (selections_at c.args.collected.now.groups c.args.at) c.args.value.now c.args.spots.now.items c.as_slice-in-None.result.now d.value d.errors rule (rw c.scope.ensures at h) c.as_slice-in-None.ensures.value)

pub complete-returns-in-Some-composite_type-clause-completed : goal.complete-returns-in-Some-composite_type-clause-completed
complete-returns-in-Some-composite_type-clause-completed t c =
    let found : composite_type c.args.collected.now.scope.schema (bare c.args.of.now) ≡ Some c.in-Some-composite_type.name.now = (sym (c.composite_type.ensures c.args.collected.now.scope.schema c.requires.based) ∙ ap option_copied c.in-Some-composite_type.is) in
    let rule = rules.rule-object c.args.collected.now.scope.schema c.args.of.now c.args.value.now c.as_slice-in-Some-composite_type.result.now c.in-Some-composite_type.name.now (cc) found in
    IfOk-map c.complete_object.result c.complete_object.ensures.settled (λ d h. rules.settled c.args.collected.now.scope c.args.of.now (selections_at c.args.collected.now.groups c.args.at) c.args.value.now c.args.spots.now.items _ d.value d.errors rule h)

pub complete-returns-in-None-composite_type-clause-completed : goal.complete-returns-in-None-composite_type-clause-completed
complete-returns-in-None-composite_type-clause-completed t c =
    let found : composite_type c.args.collected.now.scope.schema (bare c.args.of.now) ≡ None = (sym (c.composite_type.ensures c.args.collected.now.scope.schema c.requires.based) ∙ ap option_copied c.in-None-composite_type.is) in
    let rule = rules.rule-no_object c.args.collected.now.scope.schema c.args.of.now c.args.value.now c.in-Object.members c.in-Object.is found in
    IfOk-map c.complete_plain-in-None-composite_type.result c.complete_plain-in-None-composite_type.ensures (λ d h. rules.settled_plain c.args.collected.now.scope c.args.of.now (selections_at c.args.collected.now.groups c.args.at) c.args.value.now c.args.spots.now.items c.as_slice-in-None-composite_type.result.now d.value d.errors rule (rw c.scope-in-None-composite_type.ensures at h) c.as_slice-in-None-composite_type.ensures.value)

pub complete-returns-in-Bool-clause-completed : goal.complete-returns-in-Bool-clause-completed
complete-returns-in-Bool-clause-completed t c =
    let rule = rules.rule-Bool c.args.collected.now.scope.schema c.args.of.now c.args.value.now c.in-Bool.field-0 c.in-Bool.is in
    IfOk-map c.complete_plain-in-Bool.result c.complete_plain-in-Bool.ensures (λ d h. rules.settled_plain c.args.collected.now.scope c.args.of.now (selections_at c.args.collected.now.groups c.args.at) c.args.value.now c.args.spots.now.items c.as_slice-in-Bool.result.now d.value d.errors rule (rw c.scope-in-Bool.ensures at h) c.as_slice-in-Bool.ensures.value)

pub complete-returns-in-Number-clause-completed : goal.complete-returns-in-Number-clause-completed
complete-returns-in-Number-clause-completed t c =
    let rule = rules.rule-Number c.args.collected.now.scope.schema c.args.of.now c.args.value.now c.in-Number.field-0 c.in-Number.is in
    IfOk-map c.complete_plain-in-Number.result c.complete_plain-in-Number.ensures (λ d h. rules.settled_plain c.args.collected.now.scope c.args.of.now (selections_at c.args.collected.now.groups c.args.at) c.args.value.now c.args.spots.now.items c.as_slice-in-Number.result.now d.value d.errors rule (rw c.scope-in-Number.ensures at h) c.as_slice-in-Number.ensures.value)

pub complete-returns-in-Str-clause-completed : goal.complete-returns-in-Str-clause-completed
complete-returns-in-Str-clause-completed t c =
    let rule = rules.rule-Str c.args.collected.now.scope.schema c.args.of.now c.args.value.now c.in-Str.field-0 c.in-Str.is in
    IfOk-map c.complete_plain-in-Str.result c.complete_plain-in-Str.ensures (λ d h. rules.settled_plain c.args.collected.now.scope c.args.of.now (selections_at c.args.collected.now.groups c.args.at) c.args.value.now c.args.spots.now.items c.as_slice-in-Str.result.now d.value d.errors rule (rw c.scope-in-Str.ensures at h) c.as_slice-in-Str.ensures.value)

-- ---- elements

pub complete_items-loop-i-init : goal.complete_items-loop-i-init
complete_items-loop-i-init t c = record {
  run = rw (c.from_vec-values.ensures, c.in_ok-with_capacity.ensures.items, c.new-errors.ensures)
      (run.items_begin c.args.collected.now.scope c.args.inner.now (selections_at c.args.collected.now.groups c.args.at) c.args.spots.now.items c.args.items.now);
  back = refl;
  extends = extends-none c.args.collected.now;
}

pub complete_items-returns-in-None-clause-elements : goal.complete_items-returns-in-None-clause-elements
complete_items-returns-in-None-clause-elements t c =
    let done : Completes c.args.collected.now.scope c.args.inner.now (selections_at c.args.collected.now.groups c.args.at) c.index-items-i.result (c.args.spots.now.items ++ (spot.Index c.loop-i.i ∷ [])) None c.in_ok-value.field-0.errors =
    rw (c.loop-i.invariant.extends.scope, extends-selections c.args.collected.now c.loop-i.collected c.args.at c.loop-i.invariant.extends c.requires.there, c.loop-i.invariant.back, c.in-None.is) at c.in_ok-value.ensures.completed in
    rw c.in_ok-append.ensures.ok (run.items_climb c.args.collected.now.scope c.args.inner.now (selections_at c.args.collected.now.groups c.args.at) c.args.spots.now.items c.args.items.now c.loop-i.i c.loop-i.values c.loop-i.errors c.loop-i.invariant.run
    c.index-items-i.result c.in_ok-value.field-0.errors c.loop-i-test.true c.index-items-i.is done)

pub complete_items-loop-i-preserved : goal.complete_items-loop-i-preserved
complete_items-loop-i-preserved t c =
    let done : Completes c.args.collected.now.scope c.args.inner.now (selections_at c.args.collected.now.groups c.args.at) c.index-items-i.result (c.args.spots.now.items ++ (spot.Index c.loop-i.i ∷ [])) (Some c.in-Some.value) c.in_ok-value.field-0.errors =
    rw (c.loop-i.invariant.extends.scope, extends-selections c.args.collected.now c.loop-i.collected c.args.at c.loop-i.invariant.extends c.requires.there, c.loop-i.invariant.back, c.in-Some.is) at c.in_ok-value.ensures.completed in
    record {
      run = rw (c.in_ok-push-in-Some.ensures.ok, c.in_ok-append.ensures.ok) (run.items_next c.args.collected.now.scope c.args.inner.now (selections_at c.args.collected.now.groups c.args.at) c.args.spots.now.items c.args.items.now c.loop-i.i c.loop-i.values c.loop-i.errors c.loop-i.invariant.run
          c.index-items-i.result c.in-Some.value c.in_ok-value.field-0.errors c.loop-i-test.true c.index-items-i.is done);
      back = c.in_ok-value.ensures.back ∙ c.loop-i.invariant.back;
      extends = extends-on c.args.collected.now c.loop-i.collected c.complete_item.new.collected c.loop-i.invariant.extends c.in_ok-value.ensures.extends;
    }

pub complete_items-returns-clause-elements : goal.complete_items-returns-clause-elements
complete_items-returns-clause-elements t c = run.items_end c.args.collected.now.scope c.args.inner.now (selections_at c.args.collected.now.groups c.args.at) c.args.spots.now.items c.args.items.now c.loop-i.i c.loop-i.values c.loop-i.errors c.loop-i.invariant.run c.loop-i-test.false

pub complete_list-returns-clause-settled : goal.complete_list-returns-clause-settled
complete_list-returns-clause-settled t c = record {
  value = c.list_or_null.result;
  follows = rw c.list_or_null.ensures (by_element c.in_ok-values.ensures.elements);
  left = c.kept-value.ensures;
}

-- ---- fields

-- the group at the place of the loop, in what was collected when it began
group-at : (c' : Collections) (now : Collections) (stretch : Stretch) (i : ℕ) (g : Group) → Extends c' now → IsStretch stretch c'.groups → i < stretch.past → g ≡ get_or now.groups i g →
    (i < length (take stretch.past c'.groups)) × (g ≡ get_or (take stretch.past c'.groups) i g) × (selections_at now.groups i ≡ selections_of g) × (g ≡ get_or c'.groups i g)
group-at c' now stretch i g extends fits before is =
    let far : stretch.past ≤ length c'.groups = fits in
    let short : i < length c'.groups = omega arith in
    let same : get_or now.groups i g ≡ get_or c'.groups i g = ap (λ (gs : List Group). get_or gs i g) extends.groups ∙ get_or-append c'.groups extends.more g i short in
    (rw (length-take-le stretch.past c'.groups fits) before, is ∙ (same ∙ sym (get_or-take stretch.past c'.groups i g before)), selections-of now.groups i g (extends-within c' now i extends short) is, is ∙ same)

pub complete_fields-loop-at-init : goal.complete_fields-loop-at-init
complete_fields-loop-at-init t c = record {
  from = omega arith;
  run = rw (c.from_vec-made.ensures, c.in_ok-with_capacity.ensures.items, c.new-errors.ensures)
      (run.fields_begin c.args.collected.now.scope c.args.object.now c.args.members.now c.args.spots.now.items (groups_in c.args.stretch c.args.collected.now.groups));
  back = refl;
  extends = extends-none c.args.collected.now;
}

pub complete_fields-complete_field-requires : goal.complete_fields-complete_field-requires
complete_fields-complete_field-requires t c =
    let g : Group = c.group.result.now in
    let at = group-at c.args.collected.now c.loop-at.collected c.args.stretch c.loop-at.at g c.loop-at.invariant.extends c.requires.within c.loop-at-test.true c.group.ensures in
    let kept = rule-there c.args.collected.now c.loop-at.collected c.args.object.now c.args.stretch c.loop-at.at g (shown_rule c.rule.result) c.loop-at.invariant.extends c.requires.ruled c.loop-at.invariant.from c.loop-at-test.true at.3 c.rule.ensures in
    let typed = is-typed c.args.collected.now.scope.schema (spec.field_rule c.args.collected.now.scope.schema c.args.object.now g.first.name) c.in-Typed.of.now c.in-Typed.base (sym (ap shown_rule c.in-Typed.is) ∙ kept) in
    let based : c.in-Typed.base ≡ base_of c.loop-at.collected.scope.schema c.in-Typed.of.now = rw c.loop-at.invariant.extends.scope typed.1 in
    let far : c.args.stretch.past ≤ length c.args.collected.now.groups = c.requires.within in
    let below : c.loop-at.at < c.args.stretch.past = c.loop-at-test.true in
    let short : c.loop-at.at < length c.args.collected.now.groups = omega (arith, far, below) in
    let there : c.loop-at.at < length c.loop-at.collected.groups = extends-within c.args.collected.now c.loop-at.collected c.loop-at.at c.loop-at.invariant.extends short in
    search (rules, there, based)

pub complete_fields-returns-in-None-clause-fields : goal.complete_fields-returns-in-None-clause-fields
complete_fields-returns-in-None-clause-fields t c =
    let g : Group = c.group.result.now in
    let at = group-at c.args.collected.now c.loop-at.collected c.args.stretch c.loop-at.at g c.loop-at.invariant.extends c.requires.within c.loop-at-test.true c.group.ensures in
    let kept = rule-there c.args.collected.now c.loop-at.collected c.args.object.now c.args.stretch c.loop-at.at g (shown_rule c.rule.result) c.loop-at.invariant.extends c.requires.ruled c.loop-at.invariant.from c.loop-at-test.true at.3 c.rule.ensures in
    let typed = is-typed c.args.collected.now.scope.schema (spec.field_rule c.args.collected.now.scope.schema c.args.object.now g.first.name) c.in-Typed.of.now c.in-Typed.base (sym (ap shown_rule c.in-Typed.is) ∙ kept) in
    let none : c.in_ok-member-in-Typed.field-0.member ≡ None = c.in-None.is in
    let done : Completes c.args.collected.now.scope c.in-Typed.of.now (selections_of g) (spec.or_null (named g.first.key c.args.members.now))
    (c.args.spots.now.items ++ (spot.Name g.first.key ∷ [])) None c.in_ok-member-in-Typed.field-0.errors =
    no-member c.args.collected.now.scope c.in-Typed.of.now (selections_of g) g.first.key c.args.members.now c.args.spots.now.items c.in_ok-member-in-Typed.field-0.errors
    (rw (c.loop-at.invariant.extends.scope, at.2, c.key-key.ensures, c.loop-at.invariant.back, none) at c.in_ok-member-in-Typed.ensures.completed) in
    rw c.in_ok-append-in-Typed.ensures.ok (run.fields_climb c.args.collected.now.scope c.args.object.now c.args.members.now c.args.spots.now.items (groups_in c.args.stretch c.args.collected.now.groups)
    (take c.args.stretch.past c.args.collected.now.groups) c.loop-at.at c.loop-at.made c.loop-at.errors c.loop-at.invariant.run g at.0 at.1 c.in-Typed.of.now c.in_ok-member-in-Typed.field-0.errors typed.0 done)

pub complete_fields-loop-at-preserved : goal.complete_fields-loop-at-preserved
complete_fields-loop-at-preserved t c =
    let g : Group = c.group.result.now in
    let at = group-at c.args.collected.now c.loop-at.collected c.args.stretch c.loop-at.at g c.loop-at.invariant.extends c.requires.within c.loop-at-test.true c.group.ensures in
    let kept = rule-there c.args.collected.now c.loop-at.collected c.args.object.now c.args.stretch c.loop-at.at g (shown_rule c.rule.result) c.loop-at.invariant.extends c.requires.ruled c.loop-at.invariant.from c.loop-at-test.true at.3 c.rule.ensures in
    let schema : List TypeDef = c.args.collected.now.scope.schema in
    let all : List Group = groups_in c.args.stretch c.args.collected.now.groups in
    let up : List Group = take c.args.stretch.past c.args.collected.now.groups in
    let from : c.args.stretch.first ≤ c.loop-at.at = c.loop-at.invariant.from in
    elim c.match-rule.branch [
      | complete_fields-in-TypeName+in_ok-copy-in-TypeName+in_ok-copy-in-TypeName-2+in_ok-push-in-TypeName w ↦ (
          let found : spec.field_rule schema c.args.object.now g.first.name ≡ spec.type_name =
          is-type_name schema (spec.field_rule schema c.args.object.now g.first.name) (sym (ap shown_rule w.in-TypeName.is) ∙ kept) in
          let made : c.match-rule.made ≡ c.loop-at.made ++ ((g.first.key, j.Str c.args.object.now) ∷ []) =
          rw (w.made-is, w.in_ok-push-in-TypeName.ensures.ok, w.in_ok-copy-in-TypeName.ensures, c.key-key.ensures, w.in_ok-copy-in-TypeName-2.ensures) refl in
          record {
            from = omega (arith, from);
            run = rw (made, w.errors-is) (run.fields_type c.args.collected.now.scope c.args.object.now c.args.members.now c.args.spots.now.items all up c.loop-at.at c.loop-at.made c.loop-at.errors c.loop-at.invariant.run
                g at.0 at.1 found);
            back = ap (λ (v : Vec Spot Global). v.items) w.spots-is ∙ c.loop-at.invariant.back;
            extends = rw w.collected-is c.loop-at.invariant.extends;
          })
      | complete_fields-in-Unknown w ↦ (
          let found : spec.field_rule schema c.args.object.now g.first.name ≡ spec.unknown =
          is-unknown schema (spec.field_rule schema c.args.object.now g.first.name) (sym (ap shown_rule w.in-Unknown.is) ∙ kept) in
          record {
            from = omega (arith, from);
            run = rw (w.made-is, w.errors-is) (run.fields_left_out c.args.collected.now.scope c.args.object.now c.args.members.now c.args.spots.now.items all up c.loop-at.at c.loop-at.made c.loop-at.errors c.loop-at.invariant.run
                g at.0 at.1 found);
            back = ap (λ (v : Vec Spot Global). v.items) w.spots-is ∙ c.loop-at.invariant.back;
            extends = rw w.collected-is c.loop-at.invariant.extends;
          })
      | complete_fields-in-Typed+in_ok-member-in-Typed+in_ok-append-in-Typed+in-Some+in_ok-push-in-Some w ↦ (
          let typed = is-typed schema (spec.field_rule schema c.args.object.now g.first.name) w.in-Typed.of.now w.in-Typed.base (sym (ap shown_rule w.in-Typed.is) ∙ kept) in
          let field : CompletesField c.args.collected.now.scope w.in-Typed.of.now (selections_of g) g.first.key c.args.members.now c.args.spots.now.items (Some w.in-Some.member) w.in_ok-member-in-Typed.field-0.errors =
          rw (c.loop-at.invariant.extends.scope, at.2, c.key-key.ensures, c.loop-at.invariant.back, w.in-Some.is) at w.in_ok-member-in-Typed.ensures.completed in
          let done = a-member c.args.collected.now.scope w.in-Typed.of.now (selections_of g) g.first.key c.args.members.now c.args.spots.now.items w.in_ok-member-in-Typed.field-0.errors w.in-Some.member field in
          let made : c.match-rule.made ≡ c.loop-at.made ++ ((g.first.key, w.in-Some.member.1) ∷ []) =
          rw (w.made-is, w.in_ok-push-in-Some.ensures.ok, ← done.1) refl in
          record {
            from = omega (arith, from);
            run = rw (made, w.errors-is, w.in_ok-append-in-Typed.ensures.ok) (run.fields_stays c.args.collected.now.scope c.args.object.now c.args.members.now c.args.spots.now.items all up c.loop-at.at c.loop-at.made c.loop-at.errors c.loop-at.invariant.run
                g at.0 at.1 w.in-Typed.of.now w.in-Some.member.1 w.in_ok-member-in-Typed.field-0.errors typed.0 done.0);
            back = ap (λ (v : Vec Spot Global). v.items) w.spots-is ∙ (w.in_ok-member-in-Typed.ensures.back ∙ c.loop-at.invariant.back);
            extends = rw w.collected-is (extends-on c.args.collected.now c.loop-at.collected w.complete_field.new.collected c.loop-at.invariant.extends w.in_ok-member-in-Typed.ensures.extends);
          })
    ]

pub complete_fields-returns-clause-fields : goal.complete_fields-returns-clause-fields
complete_fields-returns-clause-fields t c =
    let past : length (take c.args.stretch.past c.args.collected.now.groups) ≤ c.loop-at.at = rw (length-take-le c.args.stretch.past c.args.collected.now.groups c.requires.within) c.loop-at-test.false in
    run.fields_end c.args.collected.now.scope c.args.object.now c.args.members.now c.args.spots.now.items (groups_in c.args.stretch c.args.collected.now.groups) (take c.args.stretch.past c.args.collected.now.groups)
    c.loop-at.at c.loop-at.made c.loop-at.errors c.loop-at.invariant.run past

pub complete_members-returns-clause-settled : goal.complete_members-returns-clause-settled
complete_members-returns-clause-settled t c =
    let fields : spec.CompletesFields c.args.collected.now.scope c.args.object.now c.args.members.now c.args.spots.now.items (groups_in c.in_ok-selected.selected c.enter.new.self.groups) c.in_ok-made.field-0.members c.in_ok-made.field-0.errors =
    rw c.in_ok-selected.ensures.extends.scope at c.in_ok-made.ensures.fields in
    record {
      value = c.object_or_null.result;
      follows = rw c.object_or_null.ensures (by_field c.in_ok-selected.ensures.selects fields);
      left = c.kept-value.ensures;
    }

-- ---- one member

pub complete_field-returns-clause-completed : goal.complete_field-returns-clause-completed
complete_field-returns-clause-completed t c =
    let pushed : c.push.new.self.items ≡ c.args.spots.now.items ++ (spot.Name c.args.key.now ∷ []) = rw c.in_ok-copy.ensures at c.in_ok-push.ensures.items in
    let left = c.leave_name.ensures c.args.spots.now.items c.args.key.now (c.in_ok-value.ensures.back ∙ pushed) in
    record {
      value = c.in_ok-value.field-0.value;
      completes = rw pushed at c.in_ok-value.ensures.completed;
      member = c.member_of-member.ensures ∙ ap (λ (k : List ℕ). member_of k c.in_ok-value.field-0.value) left.0;
    }

pub complete_member-returns-then-place-members-clause-completed : goal.complete_member-returns-then-place-members-clause-completed
complete_member-returns-then-place-members-clause-completed t c =
    let key : List ℕ = c.args.key.now in
    let place : c.place-place.result ≡ spec.place_of key c.args.members.now = cc in
    let within : spec.place_of key c.args.members.now < length c.args.members.now = omega arith in
    let found = named-at key c.args.members.now c.index-members-place.result within in
    let value : spec.or_null (named key c.args.members.now) ≡ (get_or c.args.members.now c.place-place.result c.index-members-place.result).1 =
    ap spec.or_null found ∙ ap (λ (i : ℕ). (get_or c.args.members.now i c.index-members-place.result).1) (sym place) in
    IfOk-map c.complete.result c.complete.ensures.completed (λ d h. rw value h)

pub complete_member-returns-clause-completed : goal.complete_member-returns-clause-completed
complete_member-returns-clause-completed t c =
    let key : List ℕ = c.args.key.now in
    let place : c.place-place.result ≡ spec.place_of key c.args.members.now = cc in
    let past : length c.args.members.now ≤ spec.place_of key c.args.members.now = omega arith in
    let value : spec.or_null (named key c.args.members.now) ≡ j.Null = ap spec.or_null (named-none key c.args.members.now past) in
    IfOk-map c.complete_null.result c.complete_null.ensures (λ d h. rw (value, ← c.as_slice.ensures.value) (h c.args.collected.now.scope (selections_at c.args.collected.now.groups c.args.at)))

pub complete_member-returns-clause-extends : goal.complete_member-returns-clause-extends
complete_member-returns-clause-extends t c = unchanged c.complete_null.result c.args.collected.now

pub complete_object-returns-in-None-clause-extends : goal.complete_object-returns-in-None-clause-extends
complete_object-returns-in-None-clause-extends t c = unchanged c.wrong_kind.result c.args.collected.now
