-- What may come next in a string. A place is that of what is begun.
use Rattle.std.specs.Prelude.{ℕ}
use Rattle.json_machine.specs.Quad.{Quad}
use Rattle.json_machine.specs.declared.begun.Tail.{Tail}

pub data Part : Type 0 where
  Plain : Part
  Escape : ℕ → Part
  Hex : ℕ → Quad → Part
  -- the escape of a low surrogate, after this high one
  Slash : ℕ → ℕ → Part
  Letter : ℕ → ℕ → Part
  Low : ℕ → ℕ → Quad → Part
  Wide : ℕ → Tail → Part
