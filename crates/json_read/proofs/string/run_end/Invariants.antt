use Rattle.std.proofs.Common.{◌≤◌, ◌-◌, length}
use Rattle.json_machine.specs.Onward.{cut}
use Rattle.json_machine.specs.Scan.{Unescaped}
use Rattle.json_read.proofs.string.run_end.Given as goal

abbrev pub invariant-loop-i : goal.invariant-loop-i
invariant-loop-i l = (l.fn.at ≤ l.i) × (l.i ≤ length l.bytes) × Unescaped (cut l.bytes l.fn.at l.i)

abbrev pub decreases-loop-i : goal.decreases-loop-i
decreases-loop-i l = length l.bytes - l.i
