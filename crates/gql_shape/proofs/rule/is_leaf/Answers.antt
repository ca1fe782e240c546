use Rattle.std.proofs.Common.{◌≡◌, subst}
use Rattle.json_value.specs.declared.tree.Json.{out-Json}
use Rattle.gql_shape.specs.Terms.{Scope}
use Rattle.gql_shape.specs.Kept.{base_fits}
use Rattle.gql_shape.proofs.Kept.{leaf-base}
use Rattle.gql_shape.proofs.rule.is_leaf.Goals as goal

pub returns : goal.returns
returns c =
    let fits : c.base_fits.result ≡ base_fits c.args.scope.now.schema c.args.name.now (out-Json c.args.value.now) c.args.base =
    subst (λ (s : Scope). c.base_fits.result ≡ base_fits s.schema c.args.name.now (out-Json c.args.value.now) c.args.base) c.scope.view_is c.base_fits.ensures in
    rw (leaf-base c.args.scope.now.schema c.args.name.now c.args.value.now, ← c.requires) fits
