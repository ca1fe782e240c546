use Rattle.std.proofs.Common.{◌≡◌, ◌≤◌, List, ◌++◌, drop, length}
use Rattle.std.specs.Prelude.{Result, vec_capacity}
use Rattle.cache_terms.specs.declared.events.Reply.{Reply}
use Rattle.line_base.specs.declared.line.LineFault.{LineFault}
use Rattle.line_base.specs.Lines.{Line}
use Rattle.line_base.specs.Lanes.{AreFetched}
use Rattle.line_base.proofs.lane.fetch_all.Given as goal

-- what answers the rest completes the whole
abbrev pub invariant-fetching : goal.invariant-fetching
invariant-fetching g l = record {
  done : (new : Line) (more : List (Result Reply LineFault)) → AreFetched (g.L.Line.line l.line) (drop l.work-index l.works) more new → AreFetched (g.L.Line.line l.fn.line) l.works (l.answers.items ++ more) new;
  many : length l.answers.items ≡ l.work-index;
  room : vec_capacity l.fn.answers ≤ vec_capacity l.answers;
}
