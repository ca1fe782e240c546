-- The representation of an entity (Apollo Federation subgraph specification, `_entities`): its type, and the members
-- that are required of it.
use Rattle.std.specs.Prelude.{ℕ, List, [], ◌∷◌, Option, Some, None, Bool, true, false, if◌then◌else◌, map, codes, option_and_then}
use Rattle.std.specs.Str.{bytes_eq}
use Rattle.json_value.specs.declared.tree.Json.{Json, out-Json}
use Rattle.json_value.specs.declared.tree.Json.TheVariants as json
use Rattle.json_value.specs.declared.tree.Json.TheOpen.{Json-F}
use Rattle.json_value.specs.Members.{member}
use Rattle.json_value.specs.Recursion.{by_parts}
use Rattle.json_paths.specs.declared.needs.Need.{Need}
use Rattle.json_paths.specs.declared.needs.Need.TheOpen.{Need-F}
use Rattle.json_paths.specs.declared.needs.Need.TheFolds.{fold-Need}
use Rattle.json_paths.specs.declared.needs.Requires.{Requires}

-- one more, where all are there
abbrev pub and_also : {X : Type 0} → Option X → Option (List X) → Option (List X)
and_also (Some x) (Some xs) = Some (x ∷ xs)
and_also _ _ = None

-- each of them, where all are there
abbrev pub all_of : {X : Type 0} → List (Option X) → Option (List X)
all_of [] = Some []
all_of (o ∷ os) = and_also o (all_of os)

abbrev pub under_name : List ℕ → Option Json → Option (List ℕ × Json)
under_name name None = None
under_name name (Some v) = Some (name, v)

abbrev pub as_list : Option (List Json) → Option Json
as_list None = None
as_list (Some xs) = Some (json.List xs)

abbrev pub as_object : Option (List (List ℕ × Json)) → Option Json
as_object None = None
as_object (Some ms) = Some (json.Object ms)

-- a name that is needed, and what is taken of its value: None where something needed is missing there
abbrev pub Taking : Type 0
Taking = List ℕ × (Json → Option Json)

-- the needed members of a value, in the order of the needs
abbrev pub taken_members : List Taking → Json → Option (List (List ℕ × Json))
taken_members [] v = Some []
taken_members (t ∷ ts) v = and_also (under_name t.0 (option_and_then t.1 (member v t.0))) (taken_members ts v)

-- of an object the needed members; a list is taken element by element, and a null stays null
abbrev pub taken_parts : List Taking → Json → Json-F (Json × Option Json) → Option Json
taken_parts ts v Json-F.Null = Some json.Null
taken_parts ts v (Json-F.List parts) = as_list (all_of (map (λ p. p.1) parts))
taken_parts ts v (Json-F.Object parts) = as_object (taken_members ts v)
taken_parts ts v _ = None

-- where nothing is needed of it, the value itself
unfoldable pub taken : List Taking → Json → Option Json
taken [] v = Some v
taken (t ∷ ts) v = by_parts (taken_parts (t ∷ ts)) v

abbrev pub taking_step : Need-F Taking → Taking
taking_step need = (need.name, taken need.fields)

unfoldable pub taking : Need → Taking
taking = fold-Need Taking taking_step

abbrev pub is_text : List ℕ → Option (Json-F Json) → Bool
is_text name (Some (Json-F.Str text)) = bytes_eq text name
is_text name _ = false

abbrev pub opened_value : Option Json → Option (Json-F Json)
opened_value None = None
opened_value (Some v) = Some (out-Json v)

abbrev pub has_type : Json → List ℕ → Bool
has_type v name = is_text name (opened_value (member v (codes "__typename")))

abbrev pub typed : List ℕ → Option (List (List ℕ × Json)) → Option Json
typed name None = None
typed name (Some ms) = Some (json.Object ((codes "__typename", json.Str name) ∷ ms))

-- the type and then the needed members; None of what is no object of the type, and where something needed is missing
unfoldable pub represent : Json → Requires → Option Json
represent v needs = if has_type v needs.type_name then typed needs.type_name (taken_members (map taking needs.fields) v) else None
