use Rattle.std.proofs.Common.{◌≡◌, map}
use Rattle.shared_book.specs.Handles.{fresh}
use Rattle.shared_book.proofs.opening.open.Given as goal

abbrev pub invariant-loop-member : goal.invariant-loop-member
invariant-loop-member g l =
    (goal.iterator-loop-member g).can_next l.member-iterator × (goal.iterator-loop-member g).is_finite l.member-iterator × (l.all.items ≡ map fresh l.yielded)
