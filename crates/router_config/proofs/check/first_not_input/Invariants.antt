use Rattle.std.proofs.Common.{◌≡◌, drop}
use Rattle.std.specs.Prelude.{map}
use Rattle.std.specs.List.{flat_map}
use Rattle.router_config.specs.Faults.{first, not_inputs, type_of, variables_of}
use Rattle.router_config.proofs.check.first_not_input.Given as goal

abbrev pub invariant-loop-i : goal.invariant-loop-i
invariant-loop-i l = first (not_inputs l.schema (map type_of (flat_map variables_of (drop l.i l.operations)))) ≡ first (not_inputs l.schema (map type_of (flat_map variables_of l.operations)))
