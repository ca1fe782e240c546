-- What holds of texts and of their values.
use Rattle.std.specs.Prelude.{◌≡◌, ℕ, List}
use Rattle.json_value.specs.declared.tree.Json.{Json}
use Rattle.json_value.specs.Grammar.{Rules, IsText}

-- A text stands for one value at most.
abbrev pub JsonTextsHaveOneValue : Rules → Type 0
JsonTextsHaveOneValue r = (v w : Json) (text : List ℕ) → IsText r v text → IsText r w text → v ≡ w
