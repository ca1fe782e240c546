use Rattle.http_wire.proofs.OneReply.{one_reply}
use Rattle.http_wire.proofs.laws.the_same_bytes_give_one_reply.Goals as goal

pub returns : goal.returns
returns c = one_reply
