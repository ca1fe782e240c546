-- The compact text of each value (RFC 8259), by cases on the value.
use Rattle.std.specs.Prelude.{ℕ, if◌then◌else◌, nat_lt, List, [], ◌∷◌, ◌++◌, map, codes}
use Rattle.std.specs.List.{join_with_byte}
use Rattle.json_value.specs.declared.tree.Json.{Json}
use Rattle.json_value.specs.declared.tree.Json.TheOpen.{Json-F}
use Rattle.json_value.specs.declared.tree.Json.TheFolds.{fold-Json}
use Rattle.json_print.specs.Escapes.{quoted}

-- the texts between two brackets, with commas between them
abbrev pub bracketed : ℕ → List (List ℕ) → ℕ → List ℕ
bracketed left texts right = left ∷ (join_with_byte 44 texts ++ (right ∷ []))

-- a name and the text of its value
abbrev pub member_text : List ℕ × List ℕ → List ℕ
member_text m = quoted m.0 ++ (58 ∷ m.1)

-- one level, where the texts of the values inside stand in their places
abbrev pub print_step : Json-F (List ℕ) → List ℕ
print_step Json-F.Null = codes "null"
print_step (Json-F.Bool b) = if b then codes "true" else codes "false"
print_step (Json-F.Number text) = text
print_step (Json-F.Str text) = quoted text
print_step (Json-F.List items) = bracketed 91 items 93
print_step (Json-F.Object members) = bracketed 123 (map member_text members) 125

abbrev pub print : Json → List ℕ
print = fold-Json (List ℕ) print_step

abbrev pub print_member : List ℕ × Json → List ℕ × List ℕ
print_member m = (m.0, print m.1)

-- a comma, but before the first
abbrev pub comma : ℕ → List ℕ
comma before = if nat_lt 0 before then codes "," else []
