use Rattle.http_wire.proofs.ResponseBack.{response_back}
use Rattle.http_wire.proofs.laws.a_response_is_read_back.Goals as goal

pub returns : goal.returns
returns c = response_back c.args.response.now c.requires.head c.requires.body c.requires.status c.requires.allow c.requires.cache_control
