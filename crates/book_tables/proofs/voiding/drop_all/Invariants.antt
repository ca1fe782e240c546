use Rattle.std.proofs.Common.{◌≡◌, ◌+◌, length}
use Rattle.book_index.specs.Under.{under}
use Rattle.book_tables.specs.Pieces.{Keyed, Targeted, Partly}
use Rattle.book_tables.proofs.voiding.drop_all.Given as goal

abbrev pub invariant-loop : goal.invariant-loop
invariant-loop l = record {
  keyed : Keyed l.keys (Partly l.events l.target l.holders);
  targeted : Targeted l.holders (Partly l.events l.target l.holders);
  left : length (under l.holders l.target) + l.counter ≡ l.count;
}
