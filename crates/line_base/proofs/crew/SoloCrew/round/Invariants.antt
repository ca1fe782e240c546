use Rattle.std.proofs.Common.{◌≡◌, ◌<◌, ◌≤◌, ℕ, length, get_or}
use Rattle.line_base.specs.Lanes.{Ran}
use Rattle.line_base.proofs.crew.SoloCrew.round.Given as goal

-- each lane so far ran, and the others are as before
abbrev pub invariant-running : goal.invariant-running
invariant-running g l = record {
  length_is : length l.lanes ≡ length l.fn.lanes;
  ran : (i : ℕ) (d : _) → i < l.lane-index → Ran (g.L.Line.line) (get_or l.fn.lanes i d) (get_or l.lanes i d);
  others : (i : ℕ) (d : _) → l.lane-index ≤ i → get_or l.lanes i d ≡ get_or l.fn.lanes i d;
}
