use Rattle.std.proofs.Common.{take}
use Rattle.gql_spreads.specs.Numbers.{AreNumbers}
use Rattle.gql_spreads.proofs.numbers.fragment_numbers.Given as goal

abbrev pub invariant-loop-i : goal.invariant-loop-i
invariant-loop-i l = AreNumbers (take l.i l.fragments) l.numbers
