-- Two values made one.
use Rattle.std.specs.Prelude.{◌≡◌, ℕ, true, List, [], ◌∷◌, Option, Some, None, if◌then◌else◌, take, slice_get}
use Rattle.std.specs.Str.{bytes_eq}
use Rattle.json_value.specs.declared.tree.Json.{Json, out-Json}
use Rattle.json_value.specs.declared.tree.Json.TheVariants as json
use Rattle.json_value.specs.declared.tree.Json.TheOpen.{Json-F}
use Rattle.json_value.specs.Members.{named}
use Rattle.json_value.specs.Recursion.{by_parts}

-- a part of the first value: itself, and how another value is merged into it
abbrev pub MergePart : Type 0
MergePart = Json × (Json → Json)

-- a part, and what is merged into it where there is something
abbrev pub with_other : MergePart → Option Json → Json
with_other part None = part.0
with_other part (Some other) = part.1 other

-- the members_with but the first with_other this name
abbrev pub without : List ℕ → List (List ℕ × Json) → List (List ℕ × Json)
without name [] = []
without name (m ∷ ms) = if bytes_eq m.0 name then ms else m ∷ without name ms

-- each member with_other the one of its name among the others, and then those of the others that are left
abbrev pub members_with : List (List ℕ × MergePart) → List (List ℕ × Json) → List (List ℕ × Json)
members_with [] others = others
members_with (m ∷ ms) others = (m.0, with_other m.1 (named m.0 others)) ∷ members_with ms (without m.0 others)

-- each element with_other the one at its index, and then the rest of the longer list
abbrev pub elements_with : List MergePart → List Json → List Json
elements_with [] others = others
elements_with (x ∷ xs) [] = x.0 ∷ elements_with xs []
elements_with (x ∷ xs) (other ∷ others) = x.1 other ∷ elements_with xs others

-- two objects by name, two lists by index; else null changes nothing, and another value takes the place of the first
abbrev pub merged : Json → Json-F MergePart → Json → Json-F Json → Json
merged a (Json-F.Object ms) b (Json-F.Object others) = json.Object (members_with ms others)
merged a (Json-F.List xs) b (Json-F.List others) = json.List (elements_with xs others)
merged a _ b Json-F.Null = a
merged a _ b _ = b

unfoldable pub merge : Json → Json → Json
merge = by_parts (λ a parts b. merged a parts b (out-Json b))

-- the first member with_other this name stands at this index
pub record IsFirstNamed (name : List ℕ) (ms : List (List ℕ × Json)) (index : ℕ) : Type 0 where
  pub member : List ℕ × Json
  pub here : slice_get ms index ≡ Some member
  pub has_name : bytes_eq member.0 name ≡ true
  pub none_before : named name (take index ms) ≡ None
