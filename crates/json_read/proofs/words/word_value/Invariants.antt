use Rattle.std.proofs.Common.{◌≤◌, ◌-◌, length}
use Rattle.json_machine.specs.Machine.{letters}
use Rattle.json_read.proofs.Tokens.{Spelled}
use Rattle.json_read.proofs.words.word_value.Given as goal

abbrev pub invariant-loop-read : goal.invariant-loop-read
invariant-loop-read l = (l.fn.at ≤ l.i) × (l.i ≤ length l.bytes) × Spelled l.bytes l.fn.at l.fn.word l.i l.read

abbrev pub decreases-loop-read : goal.decreases-loop-read
decreases-loop-read l = length (letters l.fn.word) - l.read
