use Rattle.std.proofs.Common.{◌≡◌, drop}
use Rattle.plan_exec.specs.Exec.{pieces_of}
use Rattle.plan_exec.proofs.leaves.done_of.Given as goal

abbrev pub invariant-loop-done : goal.invariant-loop-done
invariant-loop-done l = pieces_of (drop l.done-index l.given) l.fetch ≡ pieces_of l.given l.fetch
