use Rattle.std.proofs.Common.{◌≡◌, drop}
use Rattle.plan_run.specs.Subgraphs.{found_from, found_by}
use Rattle.plan_run.proofs.subgraphs.find.Given as goal

abbrev pub invariant-loop-i : goal.invariant-loop-i
invariant-loop-i l = found_from l.i (drop l.i l.subgraphs) l.name ≡ found_by l.subgraphs l.name
