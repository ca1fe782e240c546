use Rattle.std.proofs.Common.{false, rules, arith}
use Rattle.std.specs.Prelude.{IsTrue}
use Rattle.json_print.proofs.Runs.{block_plain}
use Rattle.json_print.proofs.string.blocks_end.Goals as goal

pub loop-end-preserved : goal.loop-end-preserved
loop-end-preserved c = (omega arith, omega arith, block_plain _ _ _ _ (omega arith) (omega arith) c.loop-end.invariant.2 (λ h. let t : IsTrue false = c.if-not-has_escape.ensures.1 h in search rules))
