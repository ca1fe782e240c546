use Rattle.std.proofs.Common.{◌∙◌, ap}
use Rattle.gql_types.specs.Schemas.{is_among}
use Rattle.gql_shape.specs.Terms.{Collection}
use Rattle.gql_shape.proofs.Indexed.{among-any}
use Rattle.gql_shape.proofs.collection.Collection.has_seen.Goals as goal

pub returns : goal.returns
returns c = c.contains.ensures ∙ among-any c.self.inside.seen.keys c.args.name.now ∙ ap (λ (v : Collection). is_among v.seen c.args.name.now) c.self.view_is
