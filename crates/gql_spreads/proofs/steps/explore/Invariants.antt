use Rattle.std.proofs.Common.{◌≡◌, ℕ}
use Rattle.gql_spreads.specs.declared.search.Mark.TheVariants as mark
use Rattle.gql_spreads.specs.Search.{KeepsStack, StaySeen, mark_at, steps_left}
use Rattle.gql_spreads.proofs.steps.explore.Given as goal

abbrev pub invariant-loop-search : goal.invariant-loop-search
invariant-loop-search l =
    KeepsStack l.graph l.search × StaySeen l.fn.search.marks.items l.search.marks.items × (mark_at l.search.marks.items l.root ≡ mark.Fresh → ⊥)

abbrev pub decreases-loop-search : goal.decreases-loop-search
decreases-loop-search l = steps_left l.graph l.search
