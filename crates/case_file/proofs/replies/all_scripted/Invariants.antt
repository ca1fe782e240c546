use Rattle.std.proofs.Common.{◌≡◌, drop, map}
use Rattle.case_file.specs.Forms.{all_of}
use Rattle.case_file.specs.Replies.{scripted_of}
use Rattle.case_file.proofs.Each.{joined}
use Rattle.case_file.proofs.replies.all_scripted.Given as goal

abbrev pub invariant-loop-value : goal.invariant-loop-value
invariant-loop-value l = joined l.made (all_of (map (scripted_of l.subs) (drop l.value-index l.values))) ≡ all_of (map (scripted_of l.subs) l.values)
