-- The hexadecimal digits that were read of four.
use Rattle.std.specs.Prelude.{ℕ}

pub data Quad : Type 0 where
  Nothing : Quad
  One : ℕ → Quad
  Two : ℕ → ℕ → Quad
  Three : ℕ → ℕ → ℕ → Quad
