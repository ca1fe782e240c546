-- Names that are found by their places.
use Rattle.std.specs.Prelude.{◌≡◌, ℕ, suc, List, [], ◌∷◌, map, Option, Some, None, if◌then◌else◌}
use Rattle.std.specs.Str.{bytes_eq}
use Rattle.indexmap.specs.IndexMap.{IndexMap, get}
use Rattle.gql_types.specs.declared.definition.FieldDef.{FieldDef}
use Rattle.gql_types.specs.declared.definition.InputField.{InputField}
use Rattle.gql_types.specs.declared.definition.TypeBody.{TypeBody}
use Rattle.gql_types.specs.declared.definition.TypeBody.TheVariants as body
use Rattle.gql_types.specs.declared.definition.TypeDef.{TypeDef}

-- the place of the first of the names that is this one, where the names are counted from `i`
abbrev pub first_place : ℕ → List ℕ → List (List ℕ) → Option ℕ
first_place i name [] = None
first_place i name (n ∷ ns) = if bytes_eq n name then Some i else first_place (suc i) name ns

-- the index has the first place of each name
abbrev pub FindsFirst : {S : Type 0} → IndexMap (List ℕ) ℕ S → List (List ℕ) → Type 0
FindsFirst places names = (name : List ℕ) → get bytes_eq places name ≡ first_place 0 name names

abbrev pub type_def_name : TypeDef → List ℕ
type_def_name t = t.name

abbrev pub field_def_name : FieldDef → List ℕ
field_def_name f = f.name

abbrev pub input_field_name : InputField → List ℕ
input_field_name f = f.name

-- the names of the fields, the values or the members
abbrev pub names_in : TypeBody → List (List ℕ)
names_in body.Scalar = []
names_in (body.Object interfaces fields) = map field_def_name fields
names_in (body.Interface interfaces fields) = map field_def_name fields
names_in (body.Union members) = members
names_in (body.Enum values) = values
names_in (body.Input fields) = map input_field_name fields
