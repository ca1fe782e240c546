-- Whole numbers that need no more than 15 digits.
use Rattle.std.specs.Prelude.{◌≡◌, ℕ, ◌≤◌, List, length}
use Rattle.std.specs.Str.Parse.{digits_value}
use Rattle.json_value.specs.declared.tree.Json.{Json}
use Rattle.json_value.specs.declared.tree.Json.TheVariants as j
use Rattle.json_value.specs.Numbers.{IsInt}

-- The text writes n in 1 to 15 digits: an `int` of RFC 8259, section 6, so without a sign, and without a leading zero
-- unless it is `0`.
abbrev pub IsWholeText : List ℕ → ℕ → Type 0
IsWholeText text n = IsInt text × (length text ≤ 15) × (n ≡ digits_value 10 text)

abbrev pub IsWholeNumber : Json → ℕ → Type 0
IsWholeNumber value n = (text : List ℕ) × (value ≡ j.Number text) × IsWholeText text n
