use Rattle.std.proofs.Common.{◌≡◌, drop}
use denote.Text.{Utf8}
use denote.Shadow.{shadow}
use Rattle.script_lines.specs.Script.{words}
use Rattle.script_lines.proofs.lines.rest_after.Given as goal

abbrev pub invariant-loop-passed : goal.invariant-loop-passed
invariant-loop-passed l = shadow (Utf8 l.rest) × (words l.rest ≡ drop l._passed (words l.line))
