use Rattle.std.proofs.Common.{◌≡◌, length}
use Rattle.http_wire.specs.Heads.{has_close}
use Rattle.http_wire.proofs.close.has_close.Given as goal

abbrev pub invariant-loop-value : goal.invariant-loop-value
invariant-loop-value l = has_close l.rest ≡ has_close l.fields

abbrev pub decreases-loop-value : goal.decreases-loop-value
decreases-loop-value l = length l.rest
