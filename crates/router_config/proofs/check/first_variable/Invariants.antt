use Rattle.std.proofs.Common.{◌≡◌, drop}
use Rattle.std.specs.Prelude.{map}
use Rattle.router_config.specs.Faults.{first, not_inputs, type_of}
use Rattle.router_config.proofs.check.first_variable.Given as goal

abbrev pub invariant-loop-i : goal.invariant-loop-i
invariant-loop-i l = first (not_inputs l.schema (map type_of (drop l.i l.variables))) ≡ first (not_inputs l.schema (map type_of l.variables))
