-- The members of a value: the first by its name, their names, and the parts of a value.
use Rattle.std.specs.Prelude.{ℕ, List, [], ◌∷◌, Option, Some, None, if◌then◌else◌, map}
use Rattle.std.specs.Str.{bytes_eq}
use Rattle.json_value.specs.declared.tree.Json.{Json, out-Json}
use Rattle.json_value.specs.declared.tree.Json.TheOpen.{Json-F}

abbrev pub named : List ℕ → List (List ℕ × Json) → Option Json
named name [] = None
named name (m ∷ ms) = if bytes_eq m.0 name then Some m.1 else named name ms

abbrev pub member_at : List ℕ → Json-F Json → Option Json
member_at name (Json-F.Object ms) = named name ms
member_at name _ = None

abbrev pub member : Json → List ℕ → Option Json
member v name = member_at name (out-Json v)

abbrev pub name_of : List ℕ × Json → List ℕ
name_of m = m.0

abbrev pub names_at : Json-F Json → List (List ℕ)
names_at (Json-F.Object ms) = map name_of ms
names_at _ = []

-- the names of the members of an object, in their order; another value has none
abbrev pub names : Json → List (List ℕ)
names v = names_at (out-Json v)

abbrev pub value_of : List ℕ × Json → Json
value_of m = m.1

abbrev pub parts_at : Json-F Json → List Json
parts_at (Json-F.List xs) = xs
parts_at (Json-F.Object ms) = map value_of ms
parts_at _ = []

-- the elements of a list, and the values of the members of an object; another value has no part
abbrev pub parts_of : Json → List Json
parts_of v = parts_at (out-Json v)
