use Rattle.std.specs.Prelude.{◌≤◌, ◌-◌, length}
use Rattle.json_print.specs.Escapes.{ArePlain}
use Rattle.json_print.proofs.string.blocks_end.Given as goal

abbrev pub invariant-loop-end : goal.invariant-loop-end
invariant-loop-end l = (l.from ≤ l.end) × (l.end ≤ length l.bytes) × ArePlain l.bytes l.from l.end

abbrev pub decreases-loop-end : goal.decreases-loop-end
decreases-loop-end l = length l.bytes - l.end
