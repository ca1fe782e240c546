use Rattle.std.proofs.Common.{◌≡◌, ◌≤◌, ◌+◌, ◌-◌, [], length, true}
use Rattle.std.specs.Io.KnownBytes.{IsAtEnd}
use Rattle.http_wire.specs.Taking.{Uses}
use Rattle.http_wire.proofs.ChunkLists.{SoFar, looks_left}
use Rattle.http_wire.proofs.chunked.read_chunks.Given as goal

abbrev pub invariant-chunks : goal.invariant-chunks
invariant-chunks g l = record {
  used : Uses l.fn.kept l.kept (g.S.Source.left l.fn.source) (g.S.Source.left l.source) [];
  later : g.S.Source.faults l.fn.source ≤ g.S.Source.faults l.source;
  so_far : SoFar l.kept l.body.items l.head l.at;
  most : l.at ≤ l.head + 4194304;
  ended : l.ended ≡ true → IsAtEnd (g.S.Source.left l.source);
}

abbrev pub decreases-chunks : goal.decreases-chunks
decreases-chunks g l = ((l.head + 4194304) - l.at) + ((l.head + 4194305) - length l.kept) + looks_left l.ended
