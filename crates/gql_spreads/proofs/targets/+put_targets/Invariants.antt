use Rattle.std.proofs.Common.{◌≡◌, ◌++◌, drop}
use Rattle.std.specs.List.{filter_map, flat_map}
use Rattle.gql_spreads.specs.Spreads.{spreads_of, spreads_in}
use Rattle.gql_spreads.specs.Numbers.{number_in}
use Rattle.gql_spreads.proofs.targets.+put_targets.Given as goal

abbrev pub invariant-put_targets-loop-i : goal.invariant-put_targets-loop-i
invariant-put_targets-loop-i l =
    l.out.items ++ filter_map (number_in l.numbers) (flat_map spreads_of (drop l.i l.selections))
    ≡ l.fn.out.items ++ filter_map (number_in l.numbers) (spreads_in l.selections)
