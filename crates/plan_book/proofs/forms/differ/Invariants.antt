use Rattle.std.proofs.Common.{◌≡◌, drop}
use Rattle.plan_tree.specs.Lawful.{differ}
use Rattle.plan_book.proofs.forms.differ.Given as goal

abbrev pub invariant-loop-i : goal.invariant-loop-i
invariant-loop-i l = differ (drop l.i l.names) ≡ differ l.names
