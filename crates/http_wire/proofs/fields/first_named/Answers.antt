use Rattle.std.proofs.Common.{◌∙◌, sym, ap, drop, ◌∷◌, ◌+◌}
use Rattle.std.specs.Prelude.{nat_eq}
use Rattle.std.specs.Cmp.Lexicographic.{pointwise}
use Rattle.http_wire.specs.declared.message.Field.{Field}
use Rattle.http_wire.specs.Heads.{values_of}
use Rattle.http_wire.proofs.Named.{named_here, named_past, named_nowhere, rest_whole}
use Rattle.http_wire.proofs.fields.first_named.Goals as goal

pub returns-then-is_named-clause-some : goal.returns-then-is_named-clause-some
returns-then-is_named-clause-some c =
    let name = c.args.name.now in
    let same = sym (ap (λ (f : Field). pointwise nat_eq f.name name) c.index-fields-at.is) ∙ sym c.if-is_named.ensures in
    sym c.loop-at.invariant ∙ named_here name c.args.fields.now c.loop-at.at c.index-fields-at.result c.loop-at-test.true same
    ∙ ap (λ (f : Field). f.value ∷ values_of name (drop (c.loop-at.at + 1) c.args.fields.now)) (sym c.index-fields-at.is)
    ∙ ap (λ value. value ∷ values_of name (drop (c.loop-at.at + 1) c.args.fields.now)) (sym c.as_slice.ensures)
    ∙ ap (λ fields. c.as_slice.result.now ∷ values_of name fields) (sym (rest_whole c.args.fields.now (c.loop-at.at + 1)))

pub loop-at-preserved : goal.loop-at-preserved
loop-at-preserved c =
    let name = c.args.name.now in
    let other = sym (ap (λ (f : Field). pointwise nat_eq f.name name) c.index-fields-at.is) ∙ sym c.if-is_named.ensures in
    sym (named_past name c.args.fields.now c.loop-at.at c.index-fields-at.result c.loop-at-test.true other) ∙ c.loop-at.invariant

pub returns-clause-none : goal.returns-clause-none
returns-clause-none c = sym c.loop-at.invariant ∙ named_nowhere c.args.name.now c.args.fields.now c.loop-at.at c.loop-at-test.false
