use Rattle.std.proofs.Common.{◌≡◌, ◌++◌, length}
use Rattle.std.specs.Prelude.{map}
use Rattle.std.specs.List.{zip}
use Rattle.std.specs.Vec.Iter.{into_iter_items}
use Rattle.piece_fetch.specs.Offering.{report_of, brought_of}
use Rattle.piece_fetch.proofs.unpack.unpack_pieces.Given as goal

-- what is offered so far and what is left are the whole
abbrev pub invariant-offering : goal.invariant-offering
invariant-offering l = record {
  reports : l.reports.items ++ map (report_of l.ask l.status l.verdict l.errors) (zip (into_iter_items l.value-iterator) l.tags.items) ≡ map (report_of l.ask l.status l.verdict l.errors) (zip l.fn.values.items l.fn.tags.items);
  brought : l.brought.items ++ map (brought_of l.ask l.named l.status l.verdict l.errors) (zip (into_iter_items l.value-iterator) l.tags.items) ≡ map (brought_of l.ask l.named l.status l.verdict l.errors) (zip l.fn.values.items l.fn.tags.items);
  count : length l.tags.items ≡ length (into_iter_items l.value-iterator);
}
