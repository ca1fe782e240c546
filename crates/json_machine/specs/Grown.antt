-- Hexadecimal digits with one more.
use Rattle.std.specs.Prelude.{ℕ}
use Rattle.json_machine.specs.Quad.{Quad}

pub data Grown : Type 0 where
  Part : Quad → Grown
  Whole : ℕ → Grown
