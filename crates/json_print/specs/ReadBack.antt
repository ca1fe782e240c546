-- What holds of compact texts.
use Rattle.std.specs.Prelude.{ℕ, List}
use Rattle.json_value.specs.declared.tree.Json.{Json}
use Rattle.json_value.specs.Grammar.{IsText, strict}
use Rattle.json_print.specs.Print.{print}

-- Where some text stands for the value, its compact text does.
abbrev pub ReadsBack : Json → Type 0
ReadsBack v = (text : List ℕ) → IsText strict v text → IsText strict v (print v)
