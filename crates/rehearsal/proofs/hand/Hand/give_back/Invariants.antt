use Rattle.std.specs.FinMap as map
use Rattle.std.specs.BTreeMap.{btree_map_len}
use Rattle.rehearsal.specs.InHand.{IsReady}
use Rattle.rehearsal.proofs.hand.Hand.give_back.Given as goal

abbrev pub invariant-loop-permit : goal.invariant-loop-permit
invariant-loop-permit l = IsReady l.book (map.from_entries l.permits.entries)

abbrev pub decreases-loop-permit : goal.decreases-loop-permit
decreases-loop-permit l = btree_map_len l.permits
