use Rattle.std.proofs.Common.{arith}
use Rattle.script_lines.proofs.Numbers.{status_read}
use Rattle.script_lines.proofs.fields.status_of.Goals as goal

pub returns-in-Err : goal.returns-in-Err
returns-in-Err c n h = grind (arith, status_read c.args.word.now n c.parse.result c.parse.ensures.value.0 h)
