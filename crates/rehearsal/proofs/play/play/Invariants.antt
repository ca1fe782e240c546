use Rattle.std.proofs.Common.{◌+◌, ◌≤◌, List, ℕ, length}
use Rattle.std.specs.Io.KnownBytes.{Appends}
use denote.Text.{Utf8}
use denote.Shadow.{shadow}
use Rattle.script_lines.specs.Script.{lines}
use Rattle.rehearsal.proofs.Playing.{Continues}
use Rattle.rehearsal.proofs.play.play.Given as goal

abbrev pub invariant-loop-ending : goal.invariant-loop-ending
invariant-loop-ending g l =
    shadow (Utf8 l.rest)
    × ((done : List ℕ) × Appends (g.K.Sink.written l.fn.sink) (g.K.Sink.written l.sink) done × Continues 1 l.fn.stage (lines l.script) done l.number l.stage (lines l.rest))
    × (g.K.Sink.faults l.fn.sink ≤ g.K.Sink.faults l.sink)
    × (l.number + length l.rest ≤ length l.script + 1)

abbrev pub decreases-loop-ending : goal.decreases-loop-ending
decreases-loop-ending g l = length l.rest
