use Rattle.std.proofs.Common.{List, ◌++◌, length}
use Rattle.std.specs.Prelude.{replicate}
use Rattle.std.specs.VecDeque.{deque_len}
use Rattle.cache_book.specs.declared.permit.Report.TheVariants as report
use Rattle.cache_seam.specs.Turns.{Turn, TakesTurns}
use Rattle.cache_seam.specs.Hand.{IsHand}
use Rattle.piece_fetch.specs.Coming.{SettlesEach}
use Rattle.piece_fetch.proofs.settle.give_up.Given as goal

-- what settles the rest completes the whole
abbrev pub invariant-settling : goal.invariant-settling
invariant-settling g l = record {
  done : (turns : List Turn) × TakesTurns (g.C.Cache.seen l.fn.cache) turns (g.C.Cache.seen l.cache)
      × ((more : List Turn) → SettlesEach l.permits.items (replicate (length l.permits.items) report.Failed) more → SettlesEach l.fn.permits.items (replicate (length l.fn.permits.items) report.Failed) (turns ++ more));
  hand : IsHand (g.C.Cache.seen l.cache) l.permits.items;
}

abbrev pub decreases-settling : goal.decreases-settling
decreases-settling g l = deque_len l.permits
