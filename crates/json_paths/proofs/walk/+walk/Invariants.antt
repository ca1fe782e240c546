use Rattle.std.proofs.Common.{◌≡◌, ◌++◌, ◌+◌, ◌*◌, drop, length}
use Rattle.json_paths.specs.Places.{places_under, spots_in, in_each}
use Rattle.json_paths.proofs.walk.+walk.Given as goal

abbrev pub decreases-walk : goal.decreases-walk
decreases-walk l = 2 * length l.steps.now

abbrev pub decreases-walk_member : goal.decreases-walk_member
decreases-walk_member l = 2 * length l.steps.now + 1

abbrev pub decreases-walk_each : goal.decreases-walk_each
decreases-walk_each l = 2 * length l.steps.now + 1

abbrev pub invariant-walk_each-loop-i : goal.invariant-walk_each-loop-i
invariant-walk_each-loop-i l =
    (l.spots.items ≡ l.fn.spots.items) ×
    (l.found.items ++ places_under l.fn.spots.items (in_each (λ inner. spots_in inner l.steps) l.i (drop l.i l.items))
    ≡ l.fn.found.items ++ places_under l.fn.spots.items (in_each (λ inner. spots_in inner l.steps) 0 l.items))
