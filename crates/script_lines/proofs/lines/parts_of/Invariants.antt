use Rattle.std.proofs.Common.{◌≡◌, ◌++◌, length}
use denote.Text.{Utf8}
use denote.Shadow.{shadow}
use Rattle.script_lines.specs.Script.{parts}
use Rattle.script_lines.proofs.lines.parts_of.Given as goal

abbrev pub invariant-loop-found : goal.invariant-loop-found
invariant-loop-found l = shadow (Utf8 l.rest) × (l.found.items ++ parts l.rest ≡ parts l.word)

abbrev pub decreases-loop-found : goal.decreases-loop-found
decreases-loop-found l = length l.rest
