use Rattle.json_read.proofs.Strings.{escape_ended, long_escape, short_escape}
use Rattle.std.proofs.Common.{arith}
use Rattle.json_read.proofs.escape.escaped.Goals as goal

pub returns-then-letter-bytes : goal.returns-then-letter-bytes
returns-then-letter-bytes c = escape_ended c.args.bytes.now c.args.at c.requires.within c.requires.begins c.if-letter-bytes.true

pub returns-then-bytes-letter-eq117 : goal.returns-then-bytes-letter-eq117
returns-then-bytes-letter-eq117 c = long_escape c.args.bytes.now c.args.at c.unit_escaped.result c.requires.within c.requires.begins (omega arith) c.if-bytes-letter-eq117.true c.unit_escaped.ensures

pub returns : goal.returns
returns c = short_escape c.args.bytes.now c.args.at c.short_escaped.result c.requires.within c.requires.begins c.short_escaped.ensures
