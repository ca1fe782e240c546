-- What may come next.
use Rattle.std.specs.Prelude.{ℕ, List}
use Rattle.json_value.specs.declared.tree.Json.{Json}
use Rattle.json_machine.specs.declared.begun.Digit.{Digit}
use Rattle.json_machine.specs.declared.begun.Word as words
use Rattle.json_machine.specs.Part.{Part}

pub data Mode : Type 0 where
  Value : Mode
  -- an item, or the bracket that closes the list
  First : Mode
  After : Json → Mode
  -- the rest of a word, of which so many letters were read
  Word : words.Word → ℕ → Mode
  -- more of a number, or what follows it
  Number : Digit → List ℕ → Mode
  -- in a string, after this text
  Str : Part → List ℕ → Mode
  -- a name, or the bracket that closes the object
  FirstName : Mode
  -- a name, after these members
  NextName : List (List ℕ × Json) → Mode
  -- in a name, which began at this place
  Naming : List (List ℕ × Json) → ℕ → Part → List ℕ → Mode
  Colon : List (List ℕ × Json) → List ℕ → Mode
