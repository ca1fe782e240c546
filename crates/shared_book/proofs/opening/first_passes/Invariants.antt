use Rattle.std.proofs.Common.{◌≡◌}
use Rattle.shared_book.specs.Handles.{passes_of}
use Rattle.shared_book.proofs.opening.first_passes.Given as goal

abbrev pub invariant-loop-number : goal.invariant-loop-number
invariant-loop-number l = l.passes.items ≡ passes_of l.book.epoch l.number
