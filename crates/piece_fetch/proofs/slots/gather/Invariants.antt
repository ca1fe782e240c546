use Rattle.std.proofs.Common.{◌≡◌, List, ◌++◌, length, All, Option}
use Rattle.std.specs.Vec.Iter.{into_iter_items}
use Rattle.json_value.specs.declared.tree.Json.{Json}
use Rattle.piece_fetch.specs.declared.fetched.Lasts.{Lasts}
use Rattle.piece_fetch.specs.declared.fetched.Origin.{Origin}
use Rattle.piece_fetch.specs.Fetching.{AreGathered}
use Rattle.piece_fetch.specs.Between.{asked_count, IsReadable}
use Rattle.piece_fetch.proofs.slots.gather.Given as goal

-- the pieces of the keys that are left complete those so far
abbrev pub invariant-gathering : goal.invariant-gathering
invariant-gathering l = record {
  rest : (xs : List Json) (os : List Origin) (ls : List (Option Lasts)) → AreGathered l.line l.call (into_iter_items l.slot-iterator) l.came.items xs os ls → AreGathered l.line l.call l.fn.slots.items l.fn.came.items (l.pieces.items ++ xs) (l.origins.items ++ os) (l.times.items ++ ls);
  count : asked_count (into_iter_items l.slot-iterator) ≡ length l.came.items;
  readable : All IsReadable (into_iter_items l.slot-iterator);
}
