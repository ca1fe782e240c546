-- The kinds of JSON values that a reply holds.
use Rattle.std.specs.Prelude.{ℕ, Bool, true, false, List, [], map}
use Rattle.std.specs.List.{list_all}
use Rattle.json_value.specs.declared.tree.Json.{Json, out-Json}
use Rattle.json_value.specs.declared.tree.Json.TheOpen.{Json-F}

abbrev pub object_by : Json-F Json → Bool
object_by (Json-F.Object ms) = true
object_by _ = false

abbrev pub is_object : Json → Bool
is_object v = object_by (out-Json v)

-- a piece is an object, or null where it is absent
abbrev pub piece_by : Json-F Json → Bool
piece_by (Json-F.Object ms) = true
piece_by Json-F.Null = true
piece_by _ = false

abbrev pub is_piece : Json → Bool
is_piece v = piece_by (out-Json v)

abbrev pub string_by : Json-F Json → Bool
string_by (Json-F.Str text) = true
string_by _ = false

abbrev pub is_string : Json → Bool
is_string v = string_by (out-Json v)

-- its characters, or these words where it is no string
abbrev pub string_or_by : List ℕ → Json-F Json → List ℕ
string_or_by words (Json-F.Str text) = text
string_or_by words _ = words

abbrev pub string_or : List ℕ → Json → List ℕ
string_or words v = string_or_by words (out-Json v)

-- a list of strings
abbrev pub strings_by : Json-F Json → Bool
strings_by (Json-F.List xs) = list_all is_string xs
strings_by _ = false

abbrev pub is_strings : Json → Bool
is_strings v = strings_by (out-Json v)

abbrev pub strings_of_by : Json-F Json → List (List ℕ)
strings_of_by (Json-F.List xs) = map (string_or []) xs
strings_of_by _ = []

abbrev pub strings_of : Json → List (List ℕ)
strings_of v = strings_of_by (out-Json v)
