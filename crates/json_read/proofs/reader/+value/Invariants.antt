use Rattle.std.proofs.Common.{◌+◌, ◌-◌, ◌*◌, length}
use Rattle.json_read.proofs.Values.{Listed, Named}
use Rattle.json_read.proofs.reader.+value.Given as goal

abbrev pub decreases-value : goal.decreases-value
decreases-value l = 3 * l.room + 2

abbrev pub decreases-list : goal.decreases-list
decreases-list l = 3 * l.room + 1

abbrev pub decreases-object : goal.decreases-object
decreases-object l = 3 * l.room + 1

abbrev pub decreases-items_of : goal.decreases-items_of
decreases-items_of l = 3 * l.room + 3

abbrev pub decreases-members_of : goal.decreases-members_of
decreases-members_of l = 3 * l.room + 3

abbrev pub invariant-items_of-loop-items : goal.invariant-items_of-loop-items
invariant-items_of-loop-items l = Listed l.bytes l.fn.at l.room l.from l.items

abbrev pub decreases-items_of-loop-items : goal.decreases-items_of-loop-items
decreases-items_of-loop-items l = length l.bytes - l.from

abbrev pub invariant-members_of-loop-members : goal.invariant-members_of-loop-members
invariant-members_of-loop-members l = Named l.bytes l.fn.at l.room l.from l.members

abbrev pub decreases-members_of-loop-members : goal.decreases-members_of-loop-members
decreases-members_of-loop-members l = length l.bytes - l.from
