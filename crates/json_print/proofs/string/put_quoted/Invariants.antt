use Rattle.std.specs.Prelude.{◌≤◌, ◌<◌, ◌-◌, [], ◌∷◌, ◌++◌, length, string_bytes, get_or}
use Rattle.json_print.specs.Escapes.{NeedsEscape}
use Rattle.json_print.proofs.Runs.{Kept}
use Rattle.json_print.proofs.string.put_quoted.Given as goal

abbrev pub invariant-loop-end : goal.invariant-loop-end
invariant-loop-end l = Kept (string_bytes l.out) (string_bytes l.fn.out ++ (34 ∷ [])) l.text l.run l.end × (l.end ≤ length l.text) × (l.end < length l.text → NeedsEscape (get_or l.text l.end 0))

abbrev pub decreases-loop-end : goal.decreases-loop-end
decreases-loop-end l = length l.text - l.run
