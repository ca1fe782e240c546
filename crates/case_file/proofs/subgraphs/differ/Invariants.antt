use Rattle.std.proofs.Common.{◌≡◌, drop}
use Rattle.plan_tree.specs.Lawful.{differ}
use Rattle.router_config.specs.Rules.{names}
use Rattle.case_file.proofs.Each.{differ_from}
use Rattle.case_file.proofs.subgraphs.differ.Given as goal

abbrev pub invariant-loop-i : goal.invariant-loop-i
invariant-loop-i l = differ (names (drop l.i l.rules)) ≡ differ (names l.rules)
