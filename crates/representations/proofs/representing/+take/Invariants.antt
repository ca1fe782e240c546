use Rattle.std.proofs.Common.{◌≡◌, map, ◌+◌, ◌*◌, drop}
use Rattle.json_value.specs.Heights.{height, items_height}
use Rattle.representations.specs.Represent.{taken, taken_members, all_of, taking}
use Rattle.representations.proofs.Taken.{joined}
use Rattle.representations.proofs.representing.+take.Given as goal

abbrev pub decreases-take : goal.decreases-take
decreases-take l = 2 * height l.value.now + 1

abbrev pub decreases-take_items : goal.decreases-take_items
decreases-take_items l = 2 * items_height l.items.now + 2

abbrev pub decreases-take_members : goal.decreases-take_members
decreases-take_members l = 2 * height l.value.now

abbrev pub invariant-take_items-loop-item : goal.invariant-take_items-loop-item
invariant-take_items-loop-item l = joined l.made (all_of (map (taken (map taking l.needs)) (drop l.item-index l.items))) ≡ all_of (map (taken (map taking l.needs)) l.items)

abbrev pub invariant-take_members-loop-need : goal.invariant-take_members-loop-need
invariant-take_members-loop-need l = joined l.members (taken_members (map taking (drop l.need-index l.needs)) l.value) ≡ taken_members (map taking l.needs) l.value
