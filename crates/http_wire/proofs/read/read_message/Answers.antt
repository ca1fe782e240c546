use Rattle.http_wire.proofs.OneAnswer.{reads_gives}
use Rattle.http_wire.proofs.read.read_message.Goals as goal

pub returns-clause-gives : goal.returns-clause-gives
returns-clause-gives g c = reads_gives _ _ _ _ _ _ _ c.read_one.ensures.reads
