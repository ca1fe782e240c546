use Rattle.std.proofs.Common.{◌≡◌, max, drop}
use Rattle.plan_tree.specs.Lawful.{deepest}
use Rattle.plan_book.proofs.nodes.deepest_level.Given as goal

abbrev pub invariant-loop-level : goal.invariant-loop-level
invariant-loop-level l = max l.most (deepest (drop l.level-index l.levels)) ≡ deepest l.levels
