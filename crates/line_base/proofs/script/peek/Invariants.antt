use Rattle.std.proofs.Common.{take}
use Rattle.line_base.proofs.Scripts.{NoneOf}
use Rattle.line_base.proofs.script.peek.Given as goal

-- no entry so far is of the subgraph
abbrev pub invariant-loop-i : goal.invariant-loop-i
invariant-loop-i l = NoneOf l.sub (take l.i l.replies)
