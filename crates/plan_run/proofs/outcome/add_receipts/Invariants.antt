use Rattle.std.proofs.Common.{◌≡◌, ◌+◌, ◌++◌, length}
use Rattle.std.specs.Vec.Iter.{into_iter_items}
use Rattle.plan_run.specs.Outcomes.{receipts_from}
use Rattle.plan_run.proofs.outcome.add_receipts.Given as goal

-- the receipts so far and those of what is left are all
abbrev pub invariant-receiving : goal.invariant-receiving
invariant-receiving l = record {
  told : l.receipts.items ++ receipts_from l.fetch l.index (into_iter_items l.origin-iterator) ≡ l.fn.receipts.items ++ receipts_from l.fetch 0 l.fn.origins.items;
  count : l.index + length (into_iter_items l.origin-iterator) ≡ length l.fn.origins.items;
}
