use Rattle.std.proofs.Common.{refl, sym, ◌∙◌, arith}
use Rattle.json_read.proofs.Strings.{tail_ended, tail_bad}
use Rattle.json_read.proofs.string.tail_end.Goals as goal

pub returns-then-at-bytes : goal.returns-then-at-bytes
returns-then-at-bytes c = tail_ended c.args.bytes.now c.args.at c.args.place c.args.low c.args.high c.if-at-bytes.true

pub returns-then-is_within : goal.returns-then-is_within
returns-then-is_within c = (refl, omega arith, sym c.is_within.ensures ∙ c.if-is_within.true)

pub returns : goal.returns
returns c = tail_bad c.args.bytes.now c.args.at c.args.place c.args.low c.args.high (omega arith) (sym c.is_within.ensures ∙ c.if-is_within.false)
