use Rattle.std.proofs.Common.{◌≡◌, ◌≤◌, ◌+◌, ◌-◌, [], length}
use Rattle.http_wire.specs.Taking.{Uses}
use Rattle.http_wire.proofs.wanted.gather_wanted.Given as goal

abbrev pub invariant-pieces : goal.invariant-pieces
invariant-pieces g l = record {
  used : Uses l.fn.kept l.kept (g.S.Source.left l.fn.source) (g.S.Source.left l.source) [];
  later : g.S.Source.faults l.fn.source ≤ g.S.Source.faults l.source;
  seen : l.seen ≡ length l.kept;
  begun : l.at ≤ length l.kept;
  room : length l.kept ≤ l.end;
  grown : length l.fn.kept ≤ length l.kept;
}

abbrev pub decreases-pieces : goal.decreases-pieces
decreases-pieces g l = (l.end + 1) - length l.kept
