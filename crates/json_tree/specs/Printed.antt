-- What holds of reading and printing together.
use Rattle.std.specs.Prelude.{◌≡◌}
use Rattle.json_value.specs.declared.tree.Json.{Json}
use Rattle.json_value.specs.Grammar.{IsText, strict}
use Rattle.json_value.specs.Laws.{HasText}
use Rattle.json_print.specs.Print.{print}

-- What is printed of a value that was read stands for that value alone.
abbrev pub PrintedTextsHaveOneValue : Type 0
PrintedTextsHaveOneValue = (v w : Json) → HasText strict v → IsText strict w (print v) → w ≡ v

-- Two values that were read print as one text only where they are one value.
abbrev pub PrintedTextsTellValuesApart : Type 0
PrintedTextsTellValuesApart = (v w : Json) → HasText strict v → HasText strict w → print v ≡ print w → v ≡ w
