use Rattle.std.proofs.Common.{sym, ap, ◌∙◌}
use Rattle.gql_leaves.specs.Bares.{shown}
use Rattle.gql_shape.proofs.Kept.{base-named}
use Rattle.gql_shape.proofs.plain.complete_plain.Goals as goal

pub is_leaf-requires : goal.is_leaf-requires
is_leaf-requires c = c.requires ∙ base-named c.args.scope.now.schema c.args.of.now c.in-Named.name.now (sym c.without_mark.ensures ∙ ap shown c.in-Named.is)
