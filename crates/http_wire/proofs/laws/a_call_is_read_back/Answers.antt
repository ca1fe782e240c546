use Rattle.std.proofs.Common.{IsUtf8}
use Rattle.http_wire.proofs.CallBack.{call_back}
use Rattle.http_wire.proofs.laws.a_call_is_read_back.Goals as goal

pub returns : goal.returns
returns c =
    let text : IsUtf8 c.args.path.now = c.utf8.path in
    call_back c.args.path.now c.args.host.now c.args.id.now c.args.body.now c.requires.body c.requires.head text c.requires.path c.requires.host c.requires.id
