use Rattle.std.proofs.Common.{◌≡◌, ◌<◌, ◌+◌, ◌*◌, sym, ap, ◌∙◌, Some, arith, rules, [], ◌∷◌, ◌++◌, OnOk, Result, Ok, Err}
use denote.Param.Weighed.{most}
use Rattle.std.specs.Option.{option_copied}
use Rattle.gql_terms.proofs.documents.Selection.TheLaws.{the_size}
use Rattle.gql_shape.specs.Collecting.{fragment_named}
use Rattle.gql_shape.proofs.Spreads.{unseen, unseen-noted, deepest, deepest-has, falls}
use Rattle.gql_shape.proofs.Standings as stands
use Rattle.gql_shape.proofs.Going.{goes_on, ends}
use Rattle.gql_shape.proofs.collect.+collect.Goals as goal

OnOk-map : {A E P Q : Type 0} (r : Result A E) → OnOk r P → (P → Q) → OnOk r Q
OnOk-map (Ok v) h f = f h
OnOk-map (Err e) h f = tt

pub collect-loop-i-preserved : goal.collect-loop-i-preserved
collect-loop-i-preserved t c = goes_on c.args.scope.now c.args.type_name.now c.args.selections.now c.loop-i.i c.index-selections-i.result c.args.into.now c.loop-i.into c.take.new.into
    c.loop-i-test.true c.index-selections-i.is c.loop-i.invariant c.in_ok-take.ensures

pub collect-returns : goal.collect-returns
collect-returns t c = ends c.args.scope.now c.args.type_name.now c.args.selections.now c.loop-i.i c.args.into.now c.loop-i.into c.loop-i-test.false c.loop-i.invariant

pub take-returns-then-leaves_out : goal.take-returns-then-leaves_out
take-returns-then-leaves_out t c = stands.no_field c.args.scope.now c.args.type_name.now c.args.into.now c.args.into.now c.args.selection.now c.in-Field.directives
    c.in-Field.alias c.in-Field.name c.in-Field.arguments c.in-Field.selections c.in-Field.is (cc)

pub take-returns-then-leaves_out-2 : goal.take-returns-then-leaves_out-2
take-returns-then-leaves_out-2 t c = stands.no_spread c.args.scope.now c.args.type_name.now c.args.into.now c.args.into.now c.args.selection.now c.in-Spread.directives
    c.in-Spread.name c.in-Spread.is (cc)

pub take-returns-then-has_seen : goal.take-returns-then-has_seen
take-returns-then-has_seen t c = stands.seen_spread c.args.scope.now c.args.type_name.now c.args.into.now c.args.into.now c.args.selection.now c.in-Spread.directives
    c.in-Spread.name c.in-Spread.is (cc) (cc)

pub take-returns-then-leaves_out-3 : goal.take-returns-then-leaves_out-3
take-returns-then-leaves_out-3 t c = stands.no_inline c.args.scope.now c.args.type_name.now c.args.into.now c.args.into.now c.args.selection.now c.in-Inline.directives
    c.in-Inline.on c.in-Inline.selections c.in-Inline.is (cc)

pub take-returns-then-not-applies : goal.take-returns-then-not-applies
take-returns-then-not-applies t c = stands.other_inline c.args.scope.now c.args.type_name.now c.args.into.now c.args.into.now c.args.selection.now c.in-Inline.directives
    c.in-Inline.on c.in-Inline.selections c.in-Inline.is (cc) (cc)

pub take-returns-else-leaves_out : goal.take-returns-else-leaves_out
take-returns-else-leaves_out t c = OnOk-map c.add.result c.add.ensures (λ e. stands.a_field c.args.scope.now c.args.type_name.now c.args.into.now c.add.new.self c.args.selection.now c.in-Field.directives
    c.in-Field.alias c.in-Field.name c.in-Field.arguments c.in-Field.selections c.in-Field.is (cc) (cc e))

pub take-returns-else-not-applies : goal.take-returns-else-not-applies
take-returns-else-not-applies t c = OnOk-map c.collect.result c.collect.ensures (λ e. stands.an_inline c.args.scope.now c.args.type_name.now c.args.into.now c.collect.new.into c.args.selection.now c.in-Inline.directives
    c.in-Inline.on c.in-Inline.selections c.in-Inline.is (cc) (cc) (rw c.as_slice-in-Inline-2.ensures at e))

pub take_spread-returns-then-not-meets : goal.take_spread-returns-then-not-meets
take_spread-returns-then-not-meets t c = stands.other_fragment c.args.scope.now c.args.type_name.now c.args.name.now c.args.into.now c.args.into.now c.in-Some.fragment.now
    (sym c.fragment.ensures ∙ ap option_copied c.in-Some.is) (cc)

pub take_spread-collect-requires : goal.take_spread-collect-requires
take_spread-collect-requires t c =
    let found : fragment_named c.args.name.now c.args.scope.now.fragments ≡ Some c.in-Some.fragment.now = sym c.fragment.ensures ∙ ap option_copied c.in-Some.is in
    let fewer = unseen-noted c.args.into.now.seen c.args.name.now c.args.scope.now.fragments c.in-Some.fragment.now found c.requires in
    let deep = deepest-has the_size c.args.name.now c.args.scope.now.fragments c.in-Some.fragment.now found in
    let fall = falls (unseen (c.args.into.now.seen ++ (c.args.name.now ∷ [])) c.args.scope.now.fragments) (unseen c.args.into.now.seen c.args.scope.now.fragments)
    (2 * deepest the_size c.args.scope.now.fragments + 2) (2 * most the_size c.in-Some.fragment.now.selections + 1) fewer (omega (arith, deep)) in
    let fall' : unseen c.note.new.self.seen c.args.scope.now.fragments * (2 * deepest the_size c.args.scope.now.fragments + 2) + (2 * most the_size c.as_slice.result.now + 1)
    < unseen c.args.into.now.seen c.args.scope.now.fragments * (2 * deepest the_size c.args.scope.now.fragments + 2) = rw (c.in_ok-note-in-Some.ensures, c.as_slice.ensures) fall in
    search (rules, fall')

pub take_spread-returns-in_ok-note-in-Some : goal.take_spread-returns-in_ok-note-in-Some
take_spread-returns-in_ok-note-in-Some t c =
    let found : fragment_named c.args.name.now c.args.scope.now.fragments ≡ Some c.in-Some.fragment.now = sym c.fragment.ensures ∙ ap option_copied c.in-Some.is in
    OnOk-map c.collect.result c.collect.ensures (λ e. stands.a_fragment c.args.scope.now c.args.type_name.now c.args.name.now c.args.into.now c.collect.new.into c.in-Some.fragment.now
    found (cc) (rw (c.as_slice.ensures, c.in_ok-note-in-Some.ensures) at e))

pub take_spread-returns-in-None : goal.take_spread-returns-in-None
take_spread-returns-in-None t c = stands.no_fragment c.args.scope.now c.args.type_name.now c.args.name.now c.args.into.now c.args.into.now (sym c.fragment.ensures ∙ ap option_copied c.in-None.is)
