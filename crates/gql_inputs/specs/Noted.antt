-- Names that are noted, and members that are found by their names.
use Rattle.std.specs.Prelude.{◌≡◌, ℕ, zero, suc, true, List, [], ◌∷◌, Option, Some, None, if◌then◌else◌}
use Rattle.std.specs.Str.{bytes_eq}
use Rattle.json_value.specs.declared.tree.Json.{Json}
use Rattle.indexmap.specs.IndexMap.{IndexMap, get}
use Rattle.indexmap.specs.IndexSet.{IndexSet, contains}

-- the second set has the names of the first, and this one
abbrev pub Notes : {S : Type 0} → IndexSet (List ℕ) S → List ℕ → IndexSet (List ℕ) S → Type 0
Notes before name after = (q : List ℕ) → contains bytes_eq after q ≡ (if bytes_eq name q then true else contains bytes_eq before q)

-- the place of the first member with the name, where the first of the list has this one
abbrev pub place_from : ℕ → List ℕ → List (List ℕ × Json) → Option ℕ
place_from i name [] = None
place_from i name (m ∷ ms) = if bytes_eq m.0 name then Some i else place_from (suc i) name ms

-- the value of the member at the place
abbrev pub value_at : List (List ℕ × Json) → ℕ → Option Json
value_at [] i = None
value_at (m ∷ ms) zero = Some m.1
value_at (m ∷ ms) (suc i) = value_at ms i

-- the index has the place of the first member of each name
abbrev pub Places : {S : Type 0} → IndexMap (List ℕ) ℕ S → List (List ℕ × Json) → Type 0
Places places members = (name : List ℕ) → get bytes_eq places name ≡ place_from 0 name members
