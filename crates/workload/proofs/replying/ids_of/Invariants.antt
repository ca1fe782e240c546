use Rattle.std.proofs.Common.{◌≡◌, drop, map}
use Rattle.case_file.specs.Forms.{all_of}
use Rattle.case_file.proofs.Each.{joined}
use Rattle.workload.specs.Replying.{id_of}
use Rattle.workload.proofs.replying.ids_of.Given as goal

-- what is made so far and what the rest gives are the whole
abbrev pub invariant-loop-value : goal.invariant-loop-value
invariant-loop-value l = joined l.ids (all_of (map id_of (drop l.value-index l.values))) ≡ all_of (map id_of l.values)
