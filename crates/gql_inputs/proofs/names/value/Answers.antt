use Rattle.std.proofs.Common.{sym}
use Rattle.gql_inputs.proofs.Noted.{value_at_is}
use Rattle.gql_inputs.proofs.names.value.Goals as goal

pub returns : goal.returns
returns c = sym (value_at_is c.args.members.now c.args.place c.index-members-place.result c.requires)
