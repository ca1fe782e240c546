use Rattle.std.proofs.Common.{◌≡◌, ℕ, ◌<◌, ◌≤◌, [], ◌∷◌, ◌++◌, Some, None, sym, ap, ◌∙◌, length, get_or, arith}
use Rattle.std.specs.Option.{option_copied}
use Rattle.json_value.specs.declared.tree.Json.{out-Json}
use Rattle.json_paths.specs.declared.path.Spot.TheVariants as spot
use Rattle.gql_leaves.specs.Bares.{bare, list_of, named as named_type}
use Rattle.gql_leaves.proofs.Bares.{bare-Named, bare-ListOf, bare-NonNull}
use Rattle.gql_types.specs.Schemas.{inputs}
use Rattle.gql_inputs.specs.Coercing as spec
use Rattle.gql_inputs.specs.Coercing.{fine, refused, Coerces, FollowsRule, CoercesField, CoercesFields, Items, RefusesAt, is_given, is_default, is_left_out, is_missing}
use Rattle.json_value.specs.Members.{named}
use Rattle.gql_terms.proofs.documents.TypeRef.TheLaws.{the_size as type_size}
use Rattle.gql_inputs.proofs.Depth.{field-in}
use Rattle.gql_inputs.proofs.Members.{named-at, named-none}
use Rattle.gql_inputs.proofs.Rules as by
use Rattle.gql_inputs.proofs.Rules.{IfOk-map, IfErr-map, Refuses-map, handed, no_value, always}
use Rattle.gql_inputs.proofs.Running as run
use Rattle.gql_inputs.proofs.value.+coerce.Goals as goal
use Rattle.gql_inputs.proofs.value.+coerce.Goals.{coerce_fields-in-Some+in_ok-copy-in-Some+in_ok-push-in-Some, coerce_fields-in-None}

pub coerce_value-returns-then-is_required-clause-refused : goal.coerce_value-returns-then-is_required-clause-refused
coerce_value-returns-then-is_required-clause-refused t c =
    Refuses-map c.refusal.result c.refusal.ensures (λ q e. rw (e, c.as_slice.ensures.value) (by.null_refused c.args.schema.now c.args.of.now c.args.value.now c.args.spots.now.items (cc) (cc)))

pub coerce_value-returns-then-is_null-clause-fine : goal.coerce_value-returns-then-is_null-clause-fine
coerce_value-returns-then-is_null-clause-fine t c =
    by.null_fine c.args.schema.now c.args.of.now c.args.value.now c.args.spots.now.items (cc) (cc)

pub coerce_some-returns-in-NonNull-clause-fine : goal.coerce_some-returns-in-NonNull-clause-fine
coerce_some-returns-in-NonNull-clause-fine t c =
    let b : bare c.args.of.now ≡ bare c.get.result.now = rw (c.in-NonNull.is, c.get.ensures) (bare-NonNull c.in-NonNull.inner) in
    IfOk-map c.coerce_some.result c.coerce_some.ensures.fine (λ w h. by.by_inner c.args.schema.now c.args.of.now c.args.value.now c.args.spots.now.items (fine w) c.get.result.now c.requires b h)

pub coerce_some-returns-in-NonNull-clause-refused : goal.coerce_some-returns-in-NonNull-clause-refused
coerce_some-returns-in-NonNull-clause-refused t c =
    let b : bare c.args.of.now ≡ bare c.get.result.now = rw (c.in-NonNull.is, c.get.ensures) (bare-NonNull c.in-NonNull.inner) in
    IfErr-map c.coerce_some.result c.coerce_some.ensures.refused (λ e h. Refuses-map e h (λ q k. by.by_inner c.args.schema.now c.args.of.now c.args.value.now c.args.spots.now.items (refused q) c.get.result.now c.requires b k))

pub coerce_some-returns-in-ListOf-clause-fine : goal.coerce_some-returns-in-ListOf-clause-fine
coerce_some-returns-in-ListOf-clause-fine t c =
    let b : bare c.args.of.now ≡ list_of c.get-in-ListOf.result.now = rw (c.in-ListOf.is, c.get-in-ListOf.ensures) (bare-ListOf c.in-ListOf.inner) in
    IfOk-map c.coerce_list.result c.coerce_list.ensures.fine (λ w h. by.by_list c.args.schema.now c.args.of.now c.args.value.now c.args.spots.now.items (fine w) c.get-in-ListOf.result.now c.requires b h)

pub coerce_some-returns-in-ListOf-clause-refused : goal.coerce_some-returns-in-ListOf-clause-refused
coerce_some-returns-in-ListOf-clause-refused t c =
    let b : bare c.args.of.now ≡ list_of c.get-in-ListOf.result.now = rw (c.in-ListOf.is, c.get-in-ListOf.ensures) (bare-ListOf c.in-ListOf.inner) in
    IfErr-map c.coerce_list.result c.coerce_list.ensures.refused (λ e h. Refuses-map e h (λ q k. by.by_list c.args.schema.now c.args.of.now c.args.value.now c.args.spots.now.items (refused q) c.get-in-ListOf.result.now c.requires b k))

pub coerce_some-returns-in-Named-clause-fine : goal.coerce_some-returns-in-Named-clause-fine
coerce_some-returns-in-Named-clause-fine t c =
    let b : bare c.args.of.now ≡ named_type c.in-Named.name = rw c.in-Named.is (bare-Named c.in-Named.name) in
    IfOk-map c.coerce_named.result c.coerce_named.ensures.fine (λ w h. by.by_name c.args.schema.now c.args.of.now c.args.value.now c.args.spots.now.items (fine w) c.in-Named.name c.requires b h)

pub coerce_some-returns-in-Named-clause-refused : goal.coerce_some-returns-in-Named-clause-refused
coerce_some-returns-in-Named-clause-refused t c =
    let b : bare c.args.of.now ≡ named_type c.in-Named.name = rw c.in-Named.is (bare-Named c.in-Named.name) in
    IfErr-map c.coerce_named.result c.coerce_named.ensures.refused (λ e h. Refuses-map e h (λ q k. by.by_name c.args.schema.now c.args.of.now c.args.value.now c.args.spots.now.items (refused q) c.in-Named.name c.requires b k))

pub coerce_list-returns-in_err-made-in-List-clause-refused : goal.coerce_list-returns-in_err-made-in-List-clause-refused
coerce_list-returns-in_err-made-in-List-clause-refused t c =
    handed (λ e. RefusesAt e (λ q. FollowsRule c.args.schema.now (spec.list_rule c.args.inner.now (out-Json c.args.value.now)) c.args.value.now c.args.spots.now.items (refused q))) c.from_residual.result c.in_err-made-in-List.field-0.0 c.from_residual.ensures.1 (Refuses-map c.in_err-made-in-List.field-0.0 c.in_err-made-in-List.ensures.refused
    (λ q k. by.list_items c.args.schema.now c.args.value.now c.args.spots.now.items c.args.inner.now c.as_slice.result.now (refused q) (cc) k))

pub coerce_list-returns-in_err-one-in_default : goal.coerce_list-returns-in_err-one-in_default
coerce_list-returns-in_err-one-in_default t c =
    record {
      fine = no_value (λ w. FollowsRule c.args.schema.now (spec.list_rule c.args.inner.now (out-Json c.args.value.now)) c.args.value.now c.args.spots.now.items (fine w)) c.from_residual-in_err-one-in_default.result (λ x. x ≡ c.in_err-one-in_default.field-0.0) c.from_residual-in_err-one-in_default.ensures.1;
      refused = handed (λ e. RefusesAt e (λ q. FollowsRule c.args.schema.now (spec.list_rule c.args.inner.now (out-Json c.args.value.now)) c.args.value.now c.args.spots.now.items (refused q))) c.from_residual-in_err-one-in_default.result c.in_err-one-in_default.field-0.0 c.from_residual-in_err-one-in_default.ensures.1 (Refuses-map c.in_err-one-in_default.field-0.0 c.in_err-one-in_default.ensures.refused
          (λ q k. by.list_alone c.args.schema.now c.args.value.now c.args.spots.now.items c.args.inner.now (refused q) c.in_default.not-List k));
      back = no_value (λ _. c.coerce_value.new.spots.items ≡ c.args.spots.now.items) c.from_residual-in_err-one-in_default.result (λ x. x ≡ c.in_err-one-in_default.field-0.0) c.from_residual-in_err-one-in_default.ensures.1;
    }

pub coerce_list-returns-in_ok-made-in-List-clause-fine : goal.coerce_list-returns-in_ok-made-in-List-clause-fine
coerce_list-returns-in_ok-made-in-List-clause-fine t c =
    by.list_items c.args.schema.now c.args.value.now c.args.spots.now.items c.args.inner.now c.as_slice.result.now (fine c.in_ok-made-in-List.made) (cc) c.in_ok-made-in-List.ensures.fine

pub coerce_list-returns-in_ok-one-in_default : goal.coerce_list-returns-in_ok-one-in_default
coerce_list-returns-in_ok-one-in_default t c =
    record {
      fine = IfOk-map c.list_of_one.result c.list_of_one.ensures.fine (λ w e. rw e (by.list_alone c.args.schema.now c.args.value.now c.args.spots.now.items c.args.inner.now (fine c.in_ok-one-in_default.one) c.in_default.not-List c.in_ok-one-in_default.ensures.fine));
      refused = IfErr-map c.list_of_one.result c.list_of_one.ensures.memory (λ e h. Refuses-map e h (λ q k. absurd k));
      back = always c.list_of_one.result c.in_ok-one-in_default.ensures.back;
    }

pub coerce_items-returns-in_err-value-clause-refused : goal.coerce_items-returns-in_err-value-clause-refused
coerce_items-returns-in_err-value-clause-refused t c =
    handed (λ e. RefusesAt e (λ q. Items c.args.schema.now c.args.inner.now c.args.spots.now.items 0 c.args.items.now (refused q))) c.from_residual.result c.in_err-value.field-0.0 c.from_residual.ensures.1 (Refuses-map c.in_err-value.field-0.0 c.in_err-value.ensures.refused
    (λ q k. run.items_stop c.args.schema.now c.args.inner.now c.args.spots.now.items c.args.items.now c.loop-i.i c.loop-i.made c.loop-i.invariant.run c.index-items-i.result c.loop-i-test.true c.index-items-i.is q (rw c.loop-i.invariant.back at k)))

pub coerce_items-loop-i-preserved : goal.coerce_items-loop-i-preserved
coerce_items-loop-i-preserved t c =
    let done : Coerces c.args.schema.now c.args.inner.now c.index-items-i.result (c.args.spots.now.items ++ (spot.Index c.loop-i.i ∷ [])) (fine c.in_ok-value.value) = rw c.loop-i.invariant.back at c.in_ok-value.ensures.fine in
    record {
      run = rw c.in_ok-push.ensures.ok (run.items_next c.args.schema.now c.args.inner.now c.args.spots.now.items c.args.items.now c.loop-i.i c.loop-i.made c.loop-i.invariant.run c.index-items-i.result c.loop-i-test.true c.index-items-i.is c.in_ok-value.value done);
      back = c.in_ok-value.ensures.back ∙ c.loop-i.invariant.back;
    }

pub coerce_items-returns-clause-fine : goal.coerce_items-returns-clause-fine
coerce_items-returns-clause-fine t c =
    run.items_end c.args.schema.now c.args.inner.now c.args.spots.now.items c.args.items.now c.loop-i.i c.loop-i.made c.loop-i.invariant.run c.loop-i-test.false

pub coerce_named-returns-in-Object-clause-fine : goal.coerce_named-returns-in-Object-clause-fine
coerce_named-returns-in-Object-clause-fine t c =
    let found : inputs c.args.schema.now c.args.name.now ≡ Some c.in-Some.fields.now = sym c.inputs.ensures ∙ ap option_copied c.in-Some.is in
    let these : inputs c.args.schema.now c.args.name.now ≡ Some c.as_slice-in-Object.result.now = cc in
    IfOk-map c.coerce_input.result c.coerce_input.ensures.fine (λ w h. by.input_members c.args.schema.now c.args.value.now c.args.spots.now.items c.args.name.now c.as_slice-in-Object.result.now c.as_slice.result.now (fine w) these (cc) h)

pub coerce_named-returns-in-Object-clause-refused : goal.coerce_named-returns-in-Object-clause-refused
coerce_named-returns-in-Object-clause-refused t c =
    let found : inputs c.args.schema.now c.args.name.now ≡ Some c.in-Some.fields.now = sym c.inputs.ensures ∙ ap option_copied c.in-Some.is in
    let these : inputs c.args.schema.now c.args.name.now ≡ Some c.as_slice-in-Object.result.now = cc in
    IfErr-map c.coerce_input.result c.coerce_input.ensures.refused (λ e h. Refuses-map e h (λ q k. by.input_members c.args.schema.now c.args.value.now c.args.spots.now.items c.args.name.now c.as_slice-in-Object.result.now c.as_slice.result.now (refused q) these (cc) k))

pub coerce_named-returns-in_default : goal.coerce_named-returns-in_default
coerce_named-returns-in_default t c =
    let found : inputs c.args.schema.now c.args.name.now ≡ Some c.in-Some.fields.now = sym c.inputs.ensures ∙ ap option_copied c.in-Some.is in
    record {
      fine = tt;
      refused = Refuses-map c.refusal.result c.refusal.ensures (λ q e. rw (e, c.as_slice-in_default.ensures.value) (by.input_wrong c.args.schema.now c.args.value.now c.args.spots.now.items c.args.name.now c.in-Some.fields.now found c.in_default.not-Object));
      back = tt;
    }

pub coerce_named-returns-in_ok-copy-in-None-clause-fine : goal.coerce_named-returns-in_ok-copy-in-None-clause-fine
coerce_named-returns-in_ok-copy-in-None-clause-fine t c =
    let found : inputs c.args.schema.now c.args.name.now ≡ None = sym c.inputs.ensures ∙ ap option_copied c.in-None.is in
    rw c.in_ok-copy-in-None.ensures (by.leaf_fits c.args.schema.now c.args.value.now c.args.spots.now.items c.args.name.now found (cc))

pub coerce_named-returns-else-fits-clause-refused : goal.coerce_named-returns-else-fits-clause-refused
coerce_named-returns-else-fits-clause-refused t c =
    let found : inputs c.args.schema.now c.args.name.now ≡ None = sym c.inputs.ensures ∙ ap option_copied c.in-None.is in
    Refuses-map c.refusal-else-fits.result c.refusal-else-fits.ensures (λ q e. rw (e, c.as_slice-else-fits.ensures.value) (by.leaf_wrong c.args.schema.now c.args.value.now c.args.spots.now.items c.args.name.now found (cc)))

pub coerce_fields-coerce_field-requires : goal.coerce_fields-coerce_field-requires
coerce_fields-coerce_field-requires t c =
    let h = field-in type_size c.args.schema.now c.args.name.now c.args.fields.now c.loop-i.i c.index-fields-i.result c.requires.fields c.loop-i-test.true c.index-fields-i.is in
    grind (arith, h)

pub coerce_fields-returns-in_err-value-clause-refused : goal.coerce_fields-returns-in_err-value-clause-refused
coerce_fields-returns-in_err-value-clause-refused t c =
    handed (λ e. RefusesAt e (λ q. CoercesFields c.args.schema.now c.args.members.now c.args.spots.now.items c.args.fields.now (refused q))) c.from_residual.result c.in_err-value.field-0.0 c.from_residual.ensures.1 (Refuses-map c.in_err-value.field-0.0 c.in_err-value.ensures.refused
    (λ q k. run.fields_stop c.args.schema.now c.args.members.now c.args.spots.now.items c.args.fields.now c.loop-i.i c.loop-i.made c.loop-i.invariant.run c.index-fields-i.result c.loop-i-test.true c.index-fields-i.is q (rw c.loop-i.invariant.back at k)))

pub coerce_fields-loop-i-preserved : goal.coerce_fields-loop-i-preserved
coerce_fields-loop-i-preserved t c =
    elim c.match-branch-2.branch [
      | coerce_fields-in-Some+in_ok-copy-in-Some+in_ok-push-in-Some w ↦ (
          let done : CoercesField c.args.schema.now c.args.members.now c.args.spots.now.items c.index-fields-i.result (fine (Some w.in-Some.value)) = rw (c.loop-i.invariant.back, w.in-Some.is) at c.in_ok-value.ensures.fine in
          record {
            run = rw (w.made-is, w.in_ok-push-in-Some.ensures.ok, w.in_ok-copy-in-Some.ensures) (run.fields_some c.args.schema.now c.args.members.now c.args.spots.now.items c.args.fields.now c.loop-i.i c.loop-i.made c.loop-i.invariant.run c.index-fields-i.result c.loop-i-test.true c.index-fields-i.is w.in-Some.value done);
            back = c.in_ok-value.ensures.back ∙ c.loop-i.invariant.back;
          })
      | coerce_fields-in-None w ↦ (
          let done : CoercesField c.args.schema.now c.args.members.now c.args.spots.now.items c.index-fields-i.result (fine None) = rw (c.loop-i.invariant.back, w.in-None.is) at c.in_ok-value.ensures.fine in
          record {
            run = rw w.made-is (run.fields_none c.args.schema.now c.args.members.now c.args.spots.now.items c.args.fields.now c.loop-i.i c.loop-i.made c.loop-i.invariant.run c.index-fields-i.result c.loop-i-test.true c.index-fields-i.is done);
            back = c.in_ok-value.ensures.back ∙ c.loop-i.invariant.back;
          })
    ]

pub coerce_fields-returns-clause-fine : goal.coerce_fields-returns-clause-fine
coerce_fields-returns-clause-fine t c =
    run.fields_end c.args.schema.now c.args.members.now c.args.spots.now.items c.args.fields.now c.loop-i.i c.loop-i.made c.loop-i.invariant.run c.loop-i-test.false

pub coerce_field-returns-in_err-made-clause-refused : goal.coerce_field-returns-in_err-made-clause-refused
coerce_field-returns-in_err-made-clause-refused t c =
    let within : spec.place_of c.args.field.now.name c.args.members.now < length c.args.members.now = omega arith in
    let found : named c.args.field.now.name c.args.members.now ≡ Some (get_or c.args.members.now c.place_of-at.result c.index-members-at.result).1 =
    named-at c.args.field.now.name c.args.members.now c.index-members-at.result within ∙ ap (λ (i : ℕ). Some (get_or c.args.members.now i c.index-members-at.result).1) (sym c.place_of-at.ensures) in
    handed (λ e. RefusesAt e (λ q. CoercesField c.args.schema.now c.args.members.now c.args.spots.now.items c.args.field.now (refused q))) c.from_residual-in_err-made.result c.in_err-made.field-0.0 c.from_residual-in_err-made.ensures.1 (Refuses-map c.in_err-made.field-0.0 c.in_err-made.ensures.refused
    (λ q k. is_given {o = refused q} found (rw c.in_ok-copy.ensures at k)))

pub coerce_field-returns-then-at-members-clause-fine : goal.coerce_field-returns-then-at-members-clause-fine
coerce_field-returns-then-at-members-clause-fine t c =
    let within : spec.place_of c.args.field.now.name c.args.members.now < length c.args.members.now = omega arith in
    let found : named c.args.field.now.name c.args.members.now ≡ Some (get_or c.args.members.now c.place_of-at.result c.index-members-at.result).1 =
    named-at c.args.field.now.name c.args.members.now c.index-members-at.result within ∙ ap (λ (i : ℕ). Some (get_or c.args.members.now i c.index-members-at.result).1) (sym c.place_of-at.ensures) in
    is_given {o = fine c.in_ok-made.made} found (rw c.in_ok-copy.ensures at c.in_ok-made.ensures.fine)

pub coerce_field-returns-in_ok-constant-in-Some-clause-fine : goal.coerce_field-returns-in_ok-constant-in-Some-clause-fine
coerce_field-returns-in_ok-constant-in-Some-clause-fine t c =
    let past : length c.args.members.now ≤ spec.place_of c.args.field.now.name c.args.members.now = omega arith in
    let none = named-none c.args.field.now.name c.args.members.now past in
    rw c.in_ok-constant-in-Some.ensures (is_default {f = c.args.field.now} none c.in-Some.is)

pub coerce_field-returns-then-is_required-clause-refused : goal.coerce_field-returns-then-is_required-clause-refused
coerce_field-returns-then-is_required-clause-refused t c =
    let past : length c.args.members.now ≤ spec.place_of c.args.field.now.name c.args.members.now = omega arith in
    let none = named-none c.args.field.now.name c.args.members.now past in
    Refuses-map c.refusal.result c.refusal.ensures (λ q e. rw (e, c.as_slice.ensures.value) (is_missing {f = c.args.field.now} none c.in-None.is (cc)))

pub coerce_field-returns-else-is_required-clause-fine : goal.coerce_field-returns-else-is_required-clause-fine
coerce_field-returns-else-is_required-clause-fine t c =
    let past : length c.args.members.now ≤ spec.place_of c.args.field.now.name c.args.members.now = omega arith in
    let none = named-none c.args.field.now.name c.args.members.now past in
    is_left_out {f = c.args.field.now} none c.in-None.is (cc)
