-- The response keys of an object (October 2021, section 6.3.2): those of the groups whose field its type has, in their order.
use Rattle.std.specs.Prelude.{◌≡◌, ℕ, List, [], ◌∷◌, Option, Some, None, map}
use Rattle.json_value.specs.declared.tree.Json.{Json}
use Rattle.json_paths.specs.declared.path.Spot.{Spot}
use Rattle.gql_types.specs.declared.definition.TypeDef.{TypeDef}
use Rattle.gql_terms.specs.declared.documents.Document.{Document}
use Rattle.gql_shape.specs.declared.shaped.ShapeError.{ShapeError}
use Rattle.gql_shape.specs.Terms.{Scope, Group}
use Rattle.gql_shape.specs.Completing.{FieldRule, type_name, unknown, typed, field_rule, CompletesFields}

-- a field that the type lacks adds no key; `__typename` and a field that it has add the group's
abbrev pub with_key : FieldRule → List ℕ → List (List ℕ) → List (List ℕ)
with_key type_name key keys = key ∷ keys
with_key unknown key keys = keys
with_key (typed t) key keys = key ∷ keys

abbrev pub keys : List TypeDef → List ℕ → List Group → List (List ℕ)
keys schema object [] = []
keys schema object (g ∷ gs) = with_key (field_rule schema object g.first.name) g.first.key (keys schema object gs)

abbrev pub key_of : List ℕ × Json → List ℕ
key_of m = m.0

-- the members, where there are some, have exactly these keys, in this order
abbrev pub HaveKeys : List (List ℕ) → Option (List (List ℕ × Json)) → Type 0
HaveKeys ks None = Unit {0}
HaveKeys ks (Some made) = map key_of made ≡ ks

-- so does each object that is completed, at whatever place
abbrev pub ObjectsHaveKeys : Scope → Type 0
ObjectsHaveKeys s = (object : List ℕ) (members : List (List ℕ × Json)) (p : List Spot) (gs : List Group) (o : Option (List (List ℕ × Json))) (es : List ShapeError) →
    CompletesFields s object members p gs o es → HaveKeys (keys s.schema object gs) o

abbrev pub read_in : List TypeDef → Document → Json → Scope
read_in schema document variables = record { schema = schema; fragments = document.fragments; variables = variables }
