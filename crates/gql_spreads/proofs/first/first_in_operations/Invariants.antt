use Rattle.std.proofs.Common.{◌≡◌, drop}
use Rattle.std.specs.List.{find, flat_map}
use Rattle.gql_spreads.specs.Spreads.{operation_spreads}
use Rattle.gql_spreads.specs.Numbers.{is_bad}
use Rattle.gql_spreads.proofs.first.first_in_operations.Given as goal

abbrev pub invariant-loop-i : goal.invariant-loop-i
invariant-loop-i l =
    find (is_bad l.numbers l.cyclic) (flat_map operation_spreads (drop l.i l.operations)) ≡ find (is_bad l.numbers l.cyclic) (flat_map operation_spreads l.operations)
