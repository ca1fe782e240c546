-- Members that are taken out one by one by their names.
use Rattle.std.specs.Prelude.{◌≡◌, ℕ, List, [], ◌∷◌, ◌++◌, Option, Some, None, length}
use Rattle.std.specs.List.{IsDistinct}
use Rattle.std.specs.Str.{bytes_eq}
use Rattle.json_value.specs.declared.tree.Json.{Json}
use Rattle.merge_paths.specs.declared.others.Others.{Others}

abbrev pub put_last : List (List ℕ × Json) → List ℕ → Option Json → List (List ℕ × Json)
put_last ms name None = ms
put_last ms name (Some v) = ms ++ ((name, v) ∷ [])

-- the members of these names whose values are there, the last first
abbrev pub taken_back : List (List ℕ) → List (Option Json) → List (List ℕ × Json)
taken_back [] values = []
taken_back (name ∷ names) [] = []
taken_back (name ∷ names) (o ∷ values) = put_last (taken_back names values) name o

-- the members that were not taken
abbrev pub not_taken : Others → List (List ℕ × Json)
not_taken others = others.listed ++ taken_back others.names.keys others.values.items

-- the index has a name once, and for each name a value or None
pub record IsIndexed (others : Others) : Type 0 where
  pub differ : IsDistinct bytes_eq others.names.keys
  pub long : length others.values.items ≡ length others.names.keys
