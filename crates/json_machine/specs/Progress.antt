-- The text of a string, to its closing quote or so far.
use Rattle.std.specs.Prelude.{ℕ, List}
use Rattle.json_machine.specs.Part.{Part}

pub data StringProgress : Type 0 where
  Done : List ℕ → StringProgress
  More : Part → List ℕ → StringProgress
