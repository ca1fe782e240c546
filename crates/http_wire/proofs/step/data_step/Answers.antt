use Rattle.std.proofs.Common.{arith}
use Rattle.http_wire.proofs.StepFacts.{no_return, no_feed, chunk_found}
use Rattle.http_wire.proofs.Unfinished.{data_unfinished, return_unfinished}
use Rattle.http_wire.proofs.step.data_step.Goals as goal

pub returns-then-left-size : goal.returns-then-left-size
returns-then-left-size c = data_unfinished c.args.bytes.now c.args.from c.args.size c.requires.line.0 c.requires.line.1 c.requires.some (omega arith)

pub returns-then-bytes-to-ne-RETURN : goal.returns-then-bytes-to-ne-RETURN
returns-then-bytes-to-ne-RETURN c =
    no_return c.args.bytes.now c.args.from c.args.size c.requires.line.0 c.requires.line.1 c.requires.some (omega arith) c.if-bytes-to-ne-RETURN.true

pub returns-then-to-bytes : goal.returns-then-to-bytes
returns-then-to-bytes c =
    return_unfinished c.args.bytes.now c.args.from c.args.size c.requires.line.0 c.requires.line.1 c.requires.some c.if-to-bytes.true c.if-bytes-to-ne-RETURN.false

pub returns-then-bytes-to-ne-LINE_FEED : goal.returns-then-bytes-to-ne-LINE_FEED
returns-then-bytes-to-ne-LINE_FEED c =
    no_feed c.args.bytes.now c.args.from c.args.size c.requires.line.0 c.requires.line.1 c.requires.some (omega arith) c.if-bytes-to-ne-LINE_FEED.true

pub returns : goal.returns
returns c =
    chunk_found c.args.bytes.now c.args.from c.args.size c.requires.line.0 c.requires.line.1 c.requires.some (omega arith) c.if-bytes-to-ne-RETURN.false c.if-bytes-to-ne-LINE_FEED.false
