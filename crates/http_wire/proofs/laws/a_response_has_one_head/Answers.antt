use Rattle.http_wire.proofs.Endings.{response_head_ends}
use Rattle.http_wire.proofs.laws.a_response_has_one_head.Goals as goal

pub returns : goal.returns
returns c = response_head_ends c.args.response.now c.requires.status c.requires.body c.requires.allow c.requires.cache_control
