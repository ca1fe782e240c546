use Rattle.std.proofs.Common.{◌≡◌, ℕ, ◌<◌, [], take, map}
use Rattle.gql_spreads.specs.declared.search.Mark.TheVariants as mark
use Rattle.gql_spreads.specs.Search.{KeepsStack, mark_at, is_cyclic}
use Rattle.gql_spreads.proofs.cycles.nodes_on_cycles.Given as goal

abbrev pub invariant-loop-root : goal.invariant-loop-root
invariant-loop-root l =
    KeepsStack l.graph l.search × (l.search.groups.items ≡ []) × ((v : ℕ) → v < l.root → mark_at l.search.marks.items v ≡ mark.Fresh → ⊥)

abbrev pub invariant-loop-mark : goal.invariant-loop-mark
invariant-loop-mark l = l.flags.items ≡ map is_cyclic (take l.mark-index l.mark-items)
