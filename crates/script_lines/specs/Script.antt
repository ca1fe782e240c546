-- The text of a script: its lines, their words, and the numbers among them.
use Rattle.std.specs.Prelude.{◌≡◌, ℕ, ◌^◌, ◌<◌, ◌==◌, List, [], ◌∷◌, Option, Some, None}
use Rattle.std.specs.List.{slice_split}
use Rattle.std.specs.Fmt.{decimal}

-- the texts between the separators, one more than these
abbrev pub pieces : ℕ → List ℕ → List (List ℕ)
pieces separator text = slice_split (λ b. b == separator) text

-- the texts between the line feeds. What follows the last one is empty where the last line has its own
abbrev pub lines : List ℕ → List (List ℕ)
lines script = pieces 10 script

-- the texts between the spaces
abbrev pub words : List ℕ → List (List ℕ)
words line = pieces 32 line

-- the texts between the commas
abbrev pub parts : List ℕ → List (List ℕ)
parts word = pieces 44 word

-- the pieces of what follows the first, if something does
abbrev pub pieces_after : ℕ → Option (List ℕ) → List (List ℕ)
pieces_after separator None = []
pieces_after separator (Some rest) = pieces separator rest

abbrev pub lines_after : Option (List ℕ) → List (List ℕ)
lines_after rest = pieces_after 10 rest

-- 1 to 15 digits without a leading zero
pub record IsNumber (word : List ℕ) (n : ℕ) : Type 0 where
  pub text : word ≡ decimal n
  pub short : n < 10 ^ 15

-- an empty line, or one that begins with #
abbrev pub IsQuiet : List ℕ → Type 0
IsQuiet [] = Unit {0}
IsQuiet (b ∷ rest) = b ≡ 35
