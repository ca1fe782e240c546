use Rattle.std.proofs.Common.{take}
use Rattle.json_value.specs.Grammar.{has}
use Rattle.json_members.proofs.Names.{HasAll}
use Rattle.json_members.proofs.open_members.digests_of.Given as goal

abbrev pub invariant-loop-i : goal.invariant-loop-i
invariant-loop-i l = HasAll l.digests (has (take l.i l.members))
