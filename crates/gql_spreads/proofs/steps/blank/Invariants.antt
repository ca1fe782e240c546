use Rattle.std.proofs.Common.{◌≡◌, ℕ, vec_len}
use Rattle.gql_spreads.specs.declared.search.Mark.TheVariants as mark
use Rattle.gql_spreads.specs.Search.{mark_at}
use Rattle.gql_spreads.proofs.steps.blank.Given as goal

abbrev pub invariant-loop : goal.invariant-loop
invariant-loop l = (vec_len l.marks ≡ l.counter) × ((v : ℕ) → mark_at l.marks.items v ≡ mark.Fresh)
