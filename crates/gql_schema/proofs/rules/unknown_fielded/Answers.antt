use Rattle.std.proofs.Common.{refl}
use Rattle.gql_schema.proofs.Naming.{front_some, front_none}
use Rattle.gql_schema.proofs.rules.unknown_fielded.Goals as goal

pub returns-in-Some : goal.returns-in-Some
returns-in-Some c = front_some c.args.known.now.keys c.args.interfaces.now c.args.interfaces.now _ c.in-Some.name.now c.in-Some.ensures refl

pub returns : goal.returns
returns c = front_none c.args.known.now.keys c.args.interfaces.now c.args.interfaces.now _ _ c.in_default.ensures refl c.unknown_field.ensures
