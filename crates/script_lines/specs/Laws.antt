-- What the law of the lines says.
use Rattle.std.specs.Prelude.{◌≡◌, ℕ, List}
use Rattle.script_lines.specs.declared.commands.Command.{Command}
use Rattle.script_lines.specs.Commands.{Says}

-- a line has one reading
abbrev pub LinesHaveOneReading : Type 0
LinesHaveOneReading = (line : List (List ℕ)) (c d : Command) → Says line c → Says line d → c ≡ d
