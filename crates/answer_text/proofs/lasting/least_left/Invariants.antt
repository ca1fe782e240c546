use Rattle.std.proofs.Common.{◌≡◌, drop}
use Rattle.std.specs.Prelude.{map, fold, min}
use Rattle.answer_text.specs.Lasting.{left_of}
use Rattle.answer_text.proofs.lasting.least_left.Given as goal

abbrev pub invariant-loop-piece : goal.invariant-loop-piece
invariant-loop-piece l = fold min l.least (map left_of (drop l.piece-index l.more)) ≡ fold min (left_of l.fn.first) (map left_of l.more)
