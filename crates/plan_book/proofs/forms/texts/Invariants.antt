use Rattle.std.proofs.Common.{◌≡◌, drop, map}
use Rattle.plan_book.specs.Forms.{all_of, text_of}
use Rattle.plan_book.proofs.Each.{joined}
use Rattle.plan_book.proofs.forms.texts.Given as goal

abbrev pub invariant-loop-value : goal.invariant-loop-value
invariant-loop-value l = joined l.made (all_of (map text_of (drop l.value-index l.values))) ≡ all_of (map text_of l.values)
