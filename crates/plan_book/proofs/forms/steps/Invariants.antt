use Rattle.std.proofs.Common.{◌≡◌, drop, map}
use Rattle.plan_book.specs.Forms.{all_of, step_of}
use Rattle.plan_book.proofs.Each.{joined}
use Rattle.plan_book.proofs.forms.steps.Given as goal

abbrev pub invariant-loop-value : goal.invariant-loop-value
invariant-loop-value l = joined l.made (all_of (map step_of (drop l.value-index l.values))) ≡ all_of (map step_of l.values)
