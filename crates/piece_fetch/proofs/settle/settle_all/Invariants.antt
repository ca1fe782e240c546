use Rattle.std.proofs.Common.{◌≡◌, List, ◌++◌, length, All}
use Rattle.std.specs.VecDeque.{deque_len}
use Rattle.cache_book.specs.Settling.{IsInRange}
use Rattle.cache_seam.specs.Objects.{OffersObject}
use Rattle.cache_seam.specs.Turns.{Turn, TakesTurns}
use Rattle.cache_seam.specs.Hand.{IsHand}
use Rattle.piece_fetch.specs.Coming.{SettlesEach}
use Rattle.piece_fetch.proofs.settle.settle_all.Given as goal

-- what settles the rest completes the whole
abbrev pub invariant-settling : goal.invariant-settling
invariant-settling g l = record {
  done : (turns : List Turn) × TakesTurns (g.C.Cache.seen l.fn.cache) turns (g.C.Cache.seen l.cache) × ((more : List Turn) → SettlesEach l.permits.items l.reports.items more → SettlesEach l.fn.permits.items l.fn.reports.items (turns ++ more));
  hand : IsHand (g.C.Cache.seen l.cache) l.permits.items;
  same : length l.reports.items ≡ length l.permits.items;
  range : All IsInRange l.reports.items;
  objects : All OffersObject l.reports.items;
}

abbrev pub decreases-settling : goal.decreases-settling
decreases-settling g l = deque_len l.permits
