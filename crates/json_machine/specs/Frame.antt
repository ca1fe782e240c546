-- What is open.
use Rattle.std.specs.Prelude.{ℕ, List}
use Rattle.json_value.specs.declared.tree.Json.{Json}

pub data Frame : Type 0 where
  Items : List Json → Frame
  -- an object with these members, and the name of the next one
  Member : List (List ℕ × Json) → List ℕ → Frame
