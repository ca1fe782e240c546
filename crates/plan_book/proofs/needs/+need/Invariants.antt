use Rattle.std.proofs.Common.{◌≡◌, ◌+◌, ◌*◌, drop, map}
use Rattle.json_value.specs.Heights.{height, items_height}
use Rattle.plan_book.specs.Forms.{all_of, need_of}
use Rattle.plan_book.proofs.Each.{joined}
use Rattle.plan_book.proofs.needs.+need.Given as goal

abbrev pub decreases-need : goal.decreases-need
decreases-need l = 4 * height l.value.now + 2

abbrev pub decreases-fields : goal.decreases-fields
decreases-fields l = 4 * height l.value.now + 1

abbrev pub decreases-needs : goal.decreases-needs
decreases-needs l = 4 * height l.value.now + 3

abbrev pub decreases-each_need : goal.decreases-each_need
decreases-each_need l = 4 * items_height l.values.now + 3

abbrev pub invariant-each_need-loop-value : goal.invariant-each_need-loop-value
invariant-each_need-loop-value l = joined l.made (all_of (map need_of (drop l.value-index l.values))) ≡ all_of (map need_of l.values)
