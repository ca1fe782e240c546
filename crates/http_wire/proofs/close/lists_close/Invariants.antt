use Rattle.std.proofs.Common.{◌≡◌, length}
use Rattle.http_wire.specs.Heads.{lists_close}
use Rattle.http_wire.proofs.close.lists_close.Given as goal

abbrev pub invariant-loop-rest : goal.invariant-loop-rest
invariant-loop-rest l = lists_close l.rest ≡ lists_close l.value

abbrev pub decreases-loop-rest : goal.decreases-loop-rest
decreases-loop-rest l = length l.rest
