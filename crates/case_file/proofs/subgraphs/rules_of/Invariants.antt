use Rattle.std.proofs.Common.{◌≡◌, drop, map}
use Rattle.case_file.specs.Forms.{all_of}
use Rattle.case_file.specs.Subgraphs.{rule_of}
use Rattle.case_file.proofs.Each.{joined}
use Rattle.case_file.proofs.subgraphs.rules_of.Given as goal

abbrev pub invariant-loop-value : goal.invariant-loop-value
invariant-loop-value l = joined l.made (all_of (map rule_of (drop l.value-index l.values))) ≡ all_of (map rule_of l.values)
