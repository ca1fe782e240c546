use Rattle.std.proofs.Common.{◌≡◌, drop, map}
use Rattle.case_file.specs.Forms.{all_of}
use Rattle.case_file.specs.Requests.{timed_of}
use Rattle.case_file.proofs.Each.{joined}
use Rattle.case_file.proofs.requests.all_timed.Given as goal

abbrev pub invariant-loop-value : goal.invariant-loop-value
invariant-loop-value l = joined l.made (all_of (map timed_of (drop l.value-index l.values))) ≡ all_of (map timed_of l.values)
