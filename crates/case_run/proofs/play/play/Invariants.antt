use Rattle.std.proofs.Common.{◌≤◌, List, ℕ, drop}
use Rattle.std.specs.Io.KnownBytes.{Appends}
use Rattle.case_run.specs.Playing.{IsOneLine, case_state}
use Rattle.case_run.proofs.Going.{Continues}
use Rattle.case_run.proofs.play.play.Given as goal

abbrev pub invariant-loop-timed : goal.invariant-loop-timed
invariant-loop-timed g l =
    IsOneLine l.lines.items
    × ((done : List ℕ) × Appends (g.K.Sink.written l.fn.sink) (g.K.Sink.written l.sink) done
    × Continues l.site (case_state l.fn.cache l.fn.lines.items) l.timeds done (case_state l.cache l.lines.items) (drop l.timed-index l.timeds))
    × (g.K.Sink.faults l.fn.sink ≤ g.K.Sink.faults l.sink)
