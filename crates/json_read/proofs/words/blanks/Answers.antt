use Rattle.std.proofs.Common.{refl, sym, arith, ◌∙◌}
use Rattle.json_read.proofs.Tokens.{blank_more}
use Rattle.json_read.proofs.words.blanks.Goals as goal

pub loop-i-init : goal.loop-i-init
loop-i-init c = (omega arith, c.requires, λ mode fs _. refl)

pub returns-then-not-is_blank-clause-skips : goal.returns-then-not-is_blank-clause-skips
returns-then-not-is_blank-clause-skips c = c.loop-i.invariant.2

pub loop-i-preserved : goal.loop-i-preserved
loop-i-preserved c = (omega (arith, c.loop-i.invariant.0), omega arith, blank_more c.args.bytes.now c.args.at c.loop-i.i c.loop-i-test.true (sym c.is_blank.ensures ∙ c.if-not-is_blank.false) c.loop-i.invariant.2)

pub returns-clause-skips : goal.returns-clause-skips
returns-clause-skips c = c.loop-i.invariant.2
