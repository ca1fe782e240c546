use Rattle.std.proofs.Common.{◌≡◌, take, map}
use Rattle.partial_fetch.specs.Answering.{lasting_if}
use Rattle.partial_fetch.proofs.told.lasting_all.Given as goal

abbrev pub invariant-loop-piece : goal.invariant-loop-piece
invariant-loop-piece l = l.told.items ≡ map lasting_if (take l.piece-index l.pieces)
