use Rattle.std.proofs.Common.{sym, ◌∙◌, arith}
use Rattle.json_read.proofs.Strings.{run_begun, run_more, run_joined}
use Rattle.json_read.proofs.string.plain_end.Goals as goal

pub loop-i-init : goal.loop-i-init
loop-i-init c = (omega arith, c.requires, run_begun c.args.bytes.now c.args.at)

pub returns-then-i-at-eq-STRIDE-clause-unescaped : goal.returns-then-i-at-eq-STRIDE-clause-unescaped
returns-then-i-at-eq-STRIDE-clause-unescaped c =
    run_joined c.args.bytes.now c.args.at c.loop-i.i c.strides_end.result c.loop-i.invariant.0 c.strides_end.ensures.after c.loop-i.invariant.2 c.strides_end.ensures.unescaped

pub loop-i-preserved : goal.loop-i-preserved
loop-i-preserved c =
    (omega (arith, c.loop-i.invariant.0), omega arith, run_more c.args.bytes.now c.args.at c.loop-i.i c.loop-i.invariant.0 (omega arith) (sym c.is_plain.ensures ∙ c.if-is_plain.true) c.loop-i.invariant.2)
