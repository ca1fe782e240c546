use Rattle.std.proofs.Common.{◌≡◌, ◌≢◌, ℕ, ◌<◌, true, get_or}
use Rattle.json_members.specs.Slots.{has_digest}
use Rattle.json_members.proofs.digests.Digests.wider.Given as goal

abbrev pub invariant-loop-i : goal.invariant-loop-i
invariant-loop-i l = (k : ℕ) → k < l.i → get_or l.self.slots.items k 0 ≢ 0 → has_digest l.wider (get_or l.self.slots.items k 0) ≡ true
