use Rattle.std.proofs.Common.{◌≡◌, take}
use Rattle.line_base.proofs.Scripts.{NoneOf}
use Rattle.line_base.proofs.script.take.Given as goal

-- nothing was taken yet, and no entry so far is of the subgraph
abbrev pub invariant-loop-i : goal.invariant-loop-i
invariant-loop-i l = record { same : l.replies.items ≡ l.fn.replies.items; none : NoneOf l.sub (take l.i l.fn.replies.items) }
