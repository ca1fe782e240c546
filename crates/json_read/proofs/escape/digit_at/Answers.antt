use Rattle.std.proofs.Common.{sym, arith}
use Rattle.json_read.proofs.Strings.{digit_ended, digit_bad}
use Rattle.json_read.proofs.escape.digit_at.Goals as goal

pub returns-then-at-bytes : goal.returns-then-at-bytes
returns-then-at-bytes c = digit_ended c.args.bytes.now c.args.at c.if-at-bytes.true

pub returns-in-None : goal.returns-in-None
returns-in-None c = digit_bad c.args.bytes.now c.args.at (omega arith) (sym c.in-None.ensures)
