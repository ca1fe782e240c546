use Rattle.std.proofs.Common.{◌≡◌, drop}
use Rattle.std.specs.Prelude.{map}
use Rattle.router_config.specs.Faults.{first, unruled, sub_of}
use Rattle.router_config.proofs.check.first_unruled.Given as goal

abbrev pub invariant-loop-i : goal.invariant-loop-i
invariant-loop-i l = first (unruled l.rules (map sub_of (drop l.i l.fetches))) ≡ first (unruled l.rules (map sub_of l.fetches))
