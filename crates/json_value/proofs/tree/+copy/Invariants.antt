use Rattle.std.proofs.Common.{◌≡◌, take}
use Rattle.json_value.proofs.tree.+copy.Given as goal

abbrev pub invariant-copy_items-loop-item : goal.invariant-copy_items-loop-item
invariant-copy_items-loop-item l = l.made ≡ take l.item-index l.items

abbrev pub invariant-copy_members-loop-name : goal.invariant-copy_members-loop-name
invariant-copy_members-loop-name l = l.made ≡ take l.name-index l.members
