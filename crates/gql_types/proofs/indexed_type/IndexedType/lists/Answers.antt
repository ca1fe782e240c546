use Rattle.std.proofs.Common.{◌∙◌, ap}
use Rattle.std.specs.Option.{is_some}
use Rattle.gql_types.specs.Schemas.{interfaces_of}
use Rattle.gql_types.proofs.Standing.{is_there}
use Rattle.gql_types.proofs.indexed_type.IndexedType.lists.Goals as goal

pub returns : goal.returns
returns c = c.contains_key.ensures ∙ ap is_some (c.args.self.now.interfaces_found c.args.interface.now) ∙ is_there 0 c.args.interface.now (interfaces_of c.args.self.now.definition.body)
