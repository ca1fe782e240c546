use Rattle.std.proofs.Common.{◌-◌, length}
use Rattle.json_read.proofs.Strings.{SoFar}
use Rattle.json_read.proofs.string.with_escapes.Given as goal

abbrev pub invariant-loop-i : goal.invariant-loop-i
invariant-loop-i l = SoFar l.bytes l.fn.at l.i l.text

abbrev pub decreases-loop-i : goal.decreases-loop-i
decreases-loop-i l = length l.bytes - l.i
