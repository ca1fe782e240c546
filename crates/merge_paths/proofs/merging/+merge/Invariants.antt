use Rattle.std.proofs.Common.{◌+◌, ◌*◌}
use Rattle.json_value.specs.Heights.{height, items_height, members_height}
use Rattle.merge_paths.specs.Taking.{not_taken, IsIndexed}
use Rattle.merge_paths.specs.Levels.{merged_members, merged_elements}
use Rattle.merge_paths.proofs.Progress.{Done, Both, Rest}
use Rattle.merge_paths.proofs.merging.+merge.Given as goal

abbrev pub decreases-merge : goal.decreases-merge
decreases-merge l = 2 * height l.a

abbrev pub decreases-merge_members : goal.decreases-merge_members
decreases-merge_members l = 2 * members_height l.a + 1

abbrev pub decreases-merge_elements : goal.decreases-merge_elements
decreases-merge_elements l = 2 * items_height l.a + 1

abbrev pub invariant-merge_members-loop-i : goal.invariant-merge_members-loop-i
invariant-merge_members-loop-i l = record {
  done : Done l.a l.fn.a (not_taken l.others) (merged_members l.fn.a l.fn.b) l.i;
  indexed : IsIndexed l.others;
}

abbrev pub invariant-merge_elements-loop-i : goal.invariant-merge_elements-loop-i
invariant-merge_elements-loop-i l = Both l.a l.fn.a l.b l.fn.b (merged_elements l.fn.a l.fn.b) l.i

abbrev pub invariant-merge_elements-loop-i-2 : goal.invariant-merge_elements-loop-i-2
invariant-merge_elements-loop-i-2 l = Rest l.a l.b l.fn.b (merged_elements l.fn.a l.fn.b) l.i
