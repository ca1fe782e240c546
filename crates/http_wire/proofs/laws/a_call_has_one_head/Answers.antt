use Rattle.http_wire.proofs.Endings.{call_head_ends}
use Rattle.http_wire.proofs.laws.a_call_has_one_head.Goals as goal

pub returns : goal.returns
returns c = call_head_ends c.args.path.now c.args.host.now c.args.id.now c.args.body.now c.requires.body c.requires.path c.requires.host c.requires.id
