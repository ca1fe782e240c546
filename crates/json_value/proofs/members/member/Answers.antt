use Rattle.json_value.proofs.Membership.{found_among}
use Rattle.json_value.proofs.members.member.Goals as goal

pub returns-in-Object-clause-found : goal.returns-in-Object-clause-found
returns-in-Object-clause-found c = found_among c.named.result c.args.name.now c.args.value.now _ _ c.named.ensures c.as_slice.ensures c.in-Object.is
