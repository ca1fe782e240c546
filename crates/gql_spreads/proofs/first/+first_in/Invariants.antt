use Rattle.std.proofs.Common.{◌≡◌, drop}
use Rattle.std.specs.List.{find, flat_map}
use Rattle.gql_spreads.specs.Spreads.{spreads_of, spreads_in}
use Rattle.gql_spreads.specs.Numbers.{is_bad}
use Rattle.gql_spreads.proofs.first.+first_in.Given as goal

abbrev pub invariant-first_in-loop-i : goal.invariant-first_in-loop-i
invariant-first_in-loop-i l =
    find (is_bad l.numbers l.cyclic) (flat_map spreads_of (drop l.i l.selections)) ≡ find (is_bad l.numbers l.cyclic) (spreads_in l.selections)
