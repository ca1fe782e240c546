use Rattle.std.proofs.Common.{◌+◌, arith}
use Rattle.json_read.proofs.Strings.{run_begun, run_joined}
use Rattle.json_read.proofs.string.strides_end.Goals as goal

pub loop-i-init : goal.loop-i-init
loop-i-init c = (omega arith, c.requires, run_begun c.args.bytes.now c.args.at)

pub loop-i-preserved : goal.loop-i-preserved
loop-i-preserved c =
    (omega (arith, c.loop-i.invariant.0), omega arith, run_joined c.args.bytes.now c.args.at c.loop-i.i (c.loop-i.i + 16) c.loop-i.invariant.0 (omega arith) c.loop-i.invariant.2 (c.are_plain.ensures c.if-are_plain.true))
