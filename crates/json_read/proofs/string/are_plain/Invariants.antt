use Rattle.std.proofs.Common.{◌≡◌, true, take}
use Rattle.json_machine.specs.Scan.{Unescaped}
use Rattle.json_read.proofs.string.are_plain.Given as goal

abbrev pub invariant-loop-i : goal.invariant-loop-i
invariant-loop-i l = l.plain ≡ true → Unescaped (take l.i l.bytes)
