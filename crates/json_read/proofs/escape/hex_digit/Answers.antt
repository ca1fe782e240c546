use Rattle.json_read.proofs.Digits.{is_digit, no_digit}
use Rattle.json_read.proofs.escape.hex_digit.Goals as goal

pub returns-then-digit-lt16 : goal.returns-then-digit-lt16
returns-then-digit-lt16 c = is_digit c.args.byte c.ranges.byte.fits c.if-digit-lt16.true

pub returns-else-digit-lt16 : goal.returns-else-digit-lt16
returns-else-digit-lt16 c = no_digit c.args.byte c.ranges.byte.fits c.if-digit-lt16.false
