use Rattle.std.proofs.Common.{◌≡◌, ◌++◌, List, vec_len, All, map}
use Rattle.turn_lock.specs.Members.{backwards}
use Rattle.shared_book.specs.Handles.{HandleState}
use Rattle.shared_book.proofs.Ending.{member_of, IsChained}
use Rattle.shared_book.proofs.closing.close.Given as goal

abbrev pub invariant-loop-other : goal.invariant-loop-other
invariant-loop-other g l =
    All (λ (h : HandleState). h.home ≡ l.closing.home) l.handles.items
    × ((hs : List HandleState) × (l.fn.handles.items ≡ l.handles.items ++ hs) × (l.closing.parts ≡ backwards (map member_of hs)) × All IsChained hs)

abbrev pub decreases-loop-other : goal.decreases-loop-other
decreases-loop-other g l = vec_len l.handles
