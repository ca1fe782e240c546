use Rattle.std.proofs.Common.{sym, arith}
use Rattle.json_read.proofs.Tokens.{follows_none, follows_more}
use Rattle.json_read.proofs.number.number_run.Goals as goal

pub loop-i-init : goal.loop-i-init
loop-i-init c = (omega arith, c.requires, follows_none c.args.bytes.now c.args.at c.args.start)

pub loop-i-preserved : goal.loop-i-preserved
loop-i-preserved c =
    (omega (arith, c.loop-i.invariant.0), omega arith, follows_more c.args.bytes.now c.args.at c.loop-i.i c.args.start c.loop-i.part c.in-Some.next c.loop-i.invariant.0 c.loop-i-test.true c.loop-i.invariant.2 (sym c.in-Some.ensures))
