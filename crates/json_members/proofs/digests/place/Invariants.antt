use Rattle.std.proofs.Common.{◌≡◌, ◌+◌, drop}
use Rattle.json_members.specs.Slots.{slots_before}
use Rattle.json_members.proofs.digests.place.Given as goal

abbrev pub invariant-loop-i : goal.invariant-loop-i
invariant-loop-i l = l.i + slots_before (drop l.i l.slots) l.digest ≡ l.first + slots_before (drop l.first l.slots) l.digest
