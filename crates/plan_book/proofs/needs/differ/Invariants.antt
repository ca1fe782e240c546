use Rattle.std.proofs.Common.{◌≡◌, drop, map}
use Rattle.plan_tree.specs.Lawful.{differ}
use Rattle.plan_book.specs.Forms.{need_name}
use Rattle.plan_book.proofs.needs.differ.Given as goal

abbrev pub invariant-loop-i : goal.invariant-loop-i
invariant-loop-i l = differ (map need_name (drop l.i l.needs)) ≡ differ (map need_name l.needs)
