use Rattle.std.proofs.Common.{sym, ◌∙◌, arith}
use Rattle.std.proofs.lemmas.Result.{err_from_is_err_and}
use Rattle.json_read.proofs.Strings.{run_more, run_joined, run_ended, run_fails}
use Rattle.json_read.proofs.string.run_end.Goals as goal

pub loop-i-init : goal.loop-i-init
loop-i-init c = (c.plain_end-i.ensures.after, c.plain_end-i.ensures.within, c.plain_end-i.ensures.unescaped)

pub returns : goal.returns
returns c = run_ended c.args.bytes.now c.args.at c.loop-i.i c.loop-i.invariant.0 c.loop-i.invariant.1 c.loop-i-test.false c.loop-i.invariant.2

pub loop-i-preserved-then-is_plain : goal.loop-i-preserved-then-is_plain
loop-i-preserved-then-is_plain c =
    (omega (arith, c.loop-i.invariant.0), omega arith, run_more c.args.bytes.now c.args.at c.loop-i.i c.loop-i.invariant.0 c.loop-i-test.true (sym c.is_plain.ensures ∙ c.if-is_plain.true) c.loop-i.invariant.2)

pub returns-in_err-i : goal.returns-in_err-i
returns-in_err-i c =
    let k = err_from_is_err_and c.from_residual.result c.from_residual.ensures.1 in
    rw (k.1, k.2) (run_fails c.args.bytes.now c.args.at c.loop-i.i _ c.loop-i.invariant.0 c.loop-i.invariant.1 c.loop-i.invariant.2 c.in_err-i.ensures)

pub loop-i-preserved : goal.loop-i-preserved
loop-i-preserved c =
    (omega (arith, c.loop-i.invariant.0, c.in_ok-i.ensures.0), c.in_ok-i.ensures.1, run_joined c.args.bytes.now c.args.at c.loop-i.i c.in_ok-i.i c.loop-i.invariant.0 (omega (arith, c.in_ok-i.ensures.0)) c.loop-i.invariant.2 c.in_ok-i.ensures.2)
