use Rattle.std.proofs.Common.{◌≤◌}
use Rattle.cache_model.specs.Journal.{IsHeldUnder, IsCount}
use Rattle.plain_book.proofs.scan.count_held.Given as goal

abbrev pub invariant-loop-at : goal.invariant-loop-at
invariant-loop-at l = record { counted : IsCount (IsHeldUnder l.events l.target) l.at l.count; small : l.count ≤ l.at }
