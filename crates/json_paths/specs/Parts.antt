-- The part of a value at a place.
use Rattle.std.specs.Prelude.{ℕ, List, [], ◌∷◌, Option, Some, slice_get, option_and_then}
use Rattle.json_value.specs.declared.tree.Json.{Json, out-Json}
use Rattle.json_value.specs.declared.tree.Json.TheOpen.{Json-F}
use Rattle.json_value.specs.Members.{member}
use Rattle.json_paths.specs.declared.path.Spot.{Spot}
use Rattle.json_paths.specs.declared.path.Spot.TheVariants as spot

-- the elements of a list; another value has none
abbrev pub elements_at : Json-F Json → List Json
elements_at (Json-F.List items) = items
elements_at _ = []

abbrev pub elements : Json → List Json
elements v = elements_at (out-Json v)

abbrev pub element : Json → ℕ → Option Json
element v index = slice_get (elements v) index

-- the part that one spot names
abbrev pub part : Json → Spot → Option Json
part v (spot.Name name) = member v name
part v (spot.Index index) = element v index

-- the part that the spots lead to, one after the other
abbrev pub at : Json → List Spot → Option Json
at v [] = Some v
at v (s ∷ ss) = option_and_then (λ inner. at inner ss) (part v s)
