use Rattle.std.proofs.Common.{sym, ap, ◌∙◌}
use Rattle.gql_leaves.specs.Bares.{shown}
use Rattle.gql_shape.proofs.Kept.{named-composite, named-no_composite}
use Rattle.gql_shape.proofs.rule.composite_type.Goals as goal

pub returns-then-is_composite : goal.returns-then-is_composite
returns-then-is_composite c = λ schema based.
    named-composite schema c.args.of.now c.in-Named.name.now c.args.base (sym c.without_mark.ensures ∙ ap shown c.in-Named.is) based (sym c.is_composite.ensures ∙ c.if-is_composite.true)

pub returns-else-is_composite : goal.returns-else-is_composite
returns-else-is_composite c = λ schema based.
    named-no_composite schema c.args.of.now c.in-Named.name.now c.args.base (sym c.without_mark.ensures ∙ ap shown c.in-Named.is) based (sym c.is_composite.ensures ∙ c.if-is_composite.false)
