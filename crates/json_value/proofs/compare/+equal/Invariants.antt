use Rattle.std.proofs.Common.{◌≡◌, take, length}
use Rattle.json_value.proofs.compare.+equal.Given as goal

abbrev pub invariant-equal_items-loop-i : goal.invariant-equal_items-loop-i
invariant-equal_items-loop-i l = (length l.a ≡ length l.b) × (take l.i l.a ≡ take l.i l.b)

abbrev pub invariant-equal_members-loop-i : goal.invariant-equal_members-loop-i
invariant-equal_members-loop-i l = (length l.a ≡ length l.b) × (take l.i l.a ≡ take l.i l.b)
