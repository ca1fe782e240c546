use Rattle.std.proofs.Common.{◌∙◌, ap}
use Rattle.std.specs.Option.{is_some}
use Rattle.gql_types.specs.Index.{names_in}
use Rattle.gql_types.proofs.Standing.{is_there}
use Rattle.gql_types.proofs.indexed_type.IndexedType.has.Goals as goal

pub returns : goal.returns
returns c = c.contains_key.ensures ∙ ap is_some (c.args.self.now.names_found c.args.name.now) ∙ is_there 0 c.args.name.now (names_in c.args.self.now.definition.body)
