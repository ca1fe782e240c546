use Rattle.std.proofs.Common.{arith}
use Rattle.script_lines.proofs.Numbers.{number_some, number_short, number_plain, number_zero, number_read, reads_number}
use Rattle.script_lines.proofs.fields.number.Goals as goal

pub returns-then-is_empty : goal.returns-then-is_empty
returns-then-is_empty c n h = grind (arith, number_some _ n h)

pub returns-then-bytes-gt15 : goal.returns-then-bytes-gt15
returns-then-bytes-gt15 c n h = grind (arith, number_short _ n h)

pub returns-then-bytes-eq43 : goal.returns-then-bytes-eq43
returns-then-bytes-eq43 c n h = number_plain _ n h (rw c.as_bytes-bytes.ensures.value at c.if-bytes-eq43.true)

pub returns-then-bytes-gt1 : goal.returns-then-bytes-gt1
returns-then-bytes-gt1 c n h = grind (arith, number_zero _ n h (rw c.as_bytes-bytes.ensures.value at c.if-bytes-eq48.true))

pub returns-in-Ok : goal.returns-in-Ok
returns-in-Ok c = reads_number c.args.word.now c.in-Ok.n c.parse.result c.parse.ensures.value.0 c.in-Ok.is (grind arith) (grind arith) (grind arith)

pub returns-in-Err : goal.returns-in-Err
returns-in-Err c n h = grind (arith, number_read c.args.word.now n c.parse.result c.parse.ensures.value.0 h)
