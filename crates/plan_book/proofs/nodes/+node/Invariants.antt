use Rattle.std.proofs.Common.{◌+◌, ◌*◌, drop, map}
use Rattle.json_value.specs.Heights.{height, items_height}
use Rattle.plan_tree.specs.Lawful.{depth, deepest}
use Rattle.plan_book.specs.Drafts.{so_far, Deepens}
use Rattle.plan_book.proofs.Noding.{NodesRun}
use Rattle.plan_book.proofs.nodes.+node.Given as goal

abbrev pub decreases-node : goal.decreases-node
decreases-node l = 3 * height l.value.now + 1

abbrev pub decreases-inside : goal.decreases-inside
decreases-inside l = 3 * height l.value.now

abbrev pub decreases-nodes : goal.decreases-nodes
decreases-nodes l = 3 * items_height l.values.now + 2

abbrev pub invariant-nodes-loop-i : goal.invariant-nodes-loop-i
invariant-nodes-loop-i l = record {
  run : NodesRun l.standing (so_far l.fn.draft) l.values (drop l.i l.values) (so_far l.draft) l.made;
  levels : Deepens l.fn.draft l.draft l.around (deepest (map depth l.made));
}
