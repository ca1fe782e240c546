use Rattle.std.proofs.Common.{◌≤◌, ◌-◌, length}
use Rattle.json_read.proofs.Tokens.{Blank}
use Rattle.json_read.proofs.words.blanks.Given as goal

abbrev pub invariant-loop-i : goal.invariant-loop-i
invariant-loop-i l = (l.fn.at ≤ l.i) × (l.i ≤ length l.bytes) × Blank l.bytes l.fn.at l.i

abbrev pub decreases-loop-i : goal.decreases-loop-i
decreases-loop-i l = length l.bytes - l.i
