use Rattle.std.proofs.Common.{◌≤◌, ◌-◌, length}
use Rattle.json_machine.specs.Onward.{cut}
use Rattle.json_read.specs.Reading.{NumberFollows}
use Rattle.json_read.proofs.number.number_run.Given as goal

abbrev pub invariant-loop-i : goal.invariant-loop-i
invariant-loop-i l = (l.fn.at ≤ l.i) × (l.i ≤ length l.bytes) × NumberFollows l.fn.start (cut l.bytes l.fn.at l.i) l.part

abbrev pub decreases-loop-i : goal.decreases-loop-i
decreases-loop-i l = length l.bytes - l.i
