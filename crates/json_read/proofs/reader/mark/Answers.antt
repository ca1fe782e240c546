use Rattle.std.proofs.Common.{true, false, arith}
use Rattle.json_read.proofs.Values.{mark_read, mark_ended, mark_bad}
use Rattle.json_read.proofs.reader.mark.Goals as goal

pub returns-then-found-bytes : goal.returns-then-found-bytes
returns-then-found-bytes c = mark_ended c.args.bytes.now c.args.at c.blanks-found.result c.args.bracket c.if-found-bytes.true c.blanks-found.ensures.skips

pub returns-then-bytes-found-eq44 : goal.returns-then-bytes-found-eq44
returns-then-bytes-found-eq44 c = mark_read c.args.bytes.now c.args.at c.blanks-found.result c.args.bracket true c.blanks-found.ensures.after (omega arith) c.blanks-found.ensures.skips c.if-bytes-found-eq44.true

pub returns-then-bytes-found : goal.returns-then-bytes-found
returns-then-bytes-found c = mark_read c.args.bytes.now c.args.at c.blanks-found.result c.args.bracket false c.blanks-found.ensures.after (omega arith) c.blanks-found.ensures.skips c.if-bytes-found.true

pub returns : goal.returns
returns c = mark_bad c.args.bytes.now c.args.at c.blanks-found.result c.args.bracket (omega arith) (c.blanks-found.ensures.ends (omega arith)) c.if-bytes-found-eq44.false c.if-bytes-found.false c.blanks-found.ensures.skips
