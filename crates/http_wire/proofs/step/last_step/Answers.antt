use Rattle.http_wire.proofs.Unfinished.{last_unfinished}
use Rattle.http_wire.proofs.step.last_step.Goals as goal

pub returns-in-None : goal.returns-in-None
returns-in-None c = last_unfinished c.args.bytes.now c.args.from c.requires.line.0 c.requires.line.1 c.in-None.ensures.found
