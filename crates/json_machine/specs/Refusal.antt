-- Why the next byte is refused.
use Rattle.std.specs.Prelude.{ℕ}

pub data Refusal : Type 0 where
  Syntax : Refusal
  Deep : Refusal
  -- a sequence that is not UTF-8 begins at this place
  Malformed : ℕ → Refusal
  -- the escape of a surrogate outside a pair begins at this place
  Surrogate : ℕ → Refusal
  -- a name that its object has already begins at this place
  Twice : ℕ → Refusal
