-- What has to hold of the definitions of a text: each name is defined once, and each name of a type is known.
use Rattle.std.specs.Prelude.{◌≡◌, ℕ, Bool, List, [], ◌∷◌, ◌++◌, map, flat_map, Option, Some, None, if◌then◌else◌, codes}
use Rattle.std.specs.List.{list_any}
use Rattle.std.specs.Str.{bytes_eq}
use Rattle.gql_terms.specs.declared.documents.TypeRef.{TypeRef}
use Rattle.gql_terms.specs.declared.documents.TypeRef.TheOpen.{TypeRef-F}
use Rattle.gql_terms.specs.declared.documents.TypeRef.TheFolds.{fold-TypeRef}
use Rattle.gql_types.specs.declared.definition.InputField.{InputField}
use Rattle.gql_types.specs.declared.definition.FieldDef.{FieldDef}
use Rattle.gql_types.specs.declared.definition.TypeBody.{TypeBody}
use Rattle.gql_types.specs.declared.definition.TypeBody.TheVariants as types
use Rattle.gql_types.specs.declared.definition.TypeDef.{TypeDef}
use Rattle.gql_schema.specs.declared.terms.Field.{Field}
use Rattle.gql_schema.specs.declared.terms.Body.{Body}
use Rattle.gql_schema.specs.declared.terms.Body.TheVariants as body
use Rattle.gql_schema.specs.declared.terms.Definition.{Definition}
use Rattle.gql_schema.specs.declared.terms.Part.{Part}
use Rattle.gql_schema.specs.declared.terms.Part.TheVariants as part
use Rattle.gql_schema.specs.declared.rules.Ruling.{Ruling}
use Rattle.gql_schema.specs.declared.rules.Ruling.TheVariants as ruling

abbrev pub Name : Type 0
Name = List ℕ

-- the definition of a type
abbrev pub own_definition : Part → List Definition
own_definition part.Root = []
own_definition part.Directive = []
own_definition (part.Type d) = d ∷ []

-- the definitions of types, in their order
abbrev pub definitions : List Part → List Definition
definitions ps = flat_map own_definition ps

-- the scalars that are there (3.5)
abbrev pub built_in : List Name
built_in = codes "Int" ∷ (codes "Float" ∷ (codes "String" ∷ (codes "Boolean" ∷ (codes "ID" ∷ []))))

abbrev pub has_name : List Name → Name → Bool
has_name names name = list_any (bytes_eq name) names

-- this, or else that
abbrev pub or_then : Option Name → Option Name → Option Name
or_then (Some name) other = Some name
or_then None other = other

-- with the name, where it is new
abbrev pub with_name : List Name → Name → Bool → List Name
with_name names name is_new = if is_new then names ++ (name ∷ []) else names

-- with the name, unless it is there
abbrev pub added : List Name → Name → List Name
added names name = if has_name names name then names else names ++ (name ∷ [])

-- ---- each name is defined once

abbrev pub field_name : Field → Name
field_name f = f.name

abbrev pub input_name : InputField → Name
input_name f = f.name

-- the names that are defined within a type: of its fields, or of its values
abbrev pub members : Body → List Name
members body.Scalar = []
members (body.Object interfaces fields) = map field_name fields
members (body.Interface interfaces fields) = map field_name fields
members (body.Union names) = []
members (body.Enum values) = values
members (body.Input fields) = map input_name fields

-- the first of the names that is there before
abbrev pub first_again : List Name → List Name → Option Name
first_again before [] = None
first_again before (n ∷ ns) = if has_name before n then Some n else first_again (before ++ (n ∷ [])) ns

-- the name of the type, where it is there before, or else the first that is defined again within it
abbrev pub twice_at : List Name → Definition → Option Name
twice_at before d = if has_name before d.name then Some d.name else first_again [] (members d.body)

-- the first name that is defined again: of a type, or within it
abbrev pub twice_from : List Name → List Definition → Option Name
twice_from before [] = None
twice_from before (d ∷ ds) = or_then (twice_at before d) (twice_from (before ++ (d.name ∷ [])) ds)

abbrev pub first_twice : List Part → Option Name
first_twice ps = twice_from built_in (definitions ps)

-- ---- each name of a type is known

abbrev pub innermost_step : TypeRef-F (List ℕ) → List ℕ
innermost_step (TypeRef-F.Named name) = name
innermost_step (TypeRef-F.ListOf inner) = inner
innermost_step (TypeRef-F.NonNull inner) = inner

-- the name of a type without its lists and its non-null marks
abbrev pub innermost : TypeRef → Name
innermost = fold-TypeRef (List ℕ) innermost_step

abbrev pub input_type : InputField → Name
input_type f = innermost f.of

-- of the arguments, then of the field
abbrev pub field_types : Field → List Name
field_types f = map input_type f.arguments ++ (innermost f.of ∷ [])

-- the names that stand for types, in the order of the text
abbrev pub body_types : Body → List Name
body_types body.Scalar = []
body_types (body.Object interfaces fields) = interfaces ++ flat_map field_types fields
body_types (body.Interface interfaces fields) = interfaces ++ flat_map field_types fields
body_types (body.Union names) = names
body_types (body.Enum values) = []
body_types (body.Input fields) = map input_type fields

abbrev pub definition_types : Definition → List Name
definition_types d = body_types d.body

abbrev pub definition_name : Definition → Name
definition_name d = d.name

-- the first of the names that is not known
abbrev pub first_not_in : List Name → List Name → Option Name
first_not_in known [] = None
first_not_in known (n ∷ ns) = if has_name known n then first_not_in known ns else Some n

abbrev pub names_of : List Definition → List Name
names_of ds = map definition_name ds

-- the types that are known
abbrev pub known : List Part → List Name
known ps = built_in ++ names_of (definitions ps)

abbrev pub part_types : Part → List Name
part_types p = flat_map definition_types (own_definition p)

-- the names that stand for types
abbrev pub types_in : List Part → List Name
types_in ps = flat_map definition_types (definitions ps)

abbrev pub query : Name
query = codes "Query"

-- the types that have to be there: those that are named, and `Query`
abbrev pub needed : List Part → List Name
needed ps = types_in ps ++ (query ∷ [])

-- the first name that stands for a type and is none; `Query` is looked for last
abbrev pub first_unknown : List Part → Option Name
first_unknown ps = first_not_in (known ps) (needed ps)

-- ---- the schema

abbrev pub field_def : Field → FieldDef
field_def f = record { name = f.name; of = f.of }

abbrev pub type_body : Body → TypeBody
type_body body.Scalar = types.Scalar
type_body (body.Object interfaces fields) = types.Object interfaces (map field_def fields)
type_body (body.Interface interfaces fields) = types.Interface interfaces (map field_def fields)
type_body (body.Union names) = types.Union names
type_body (body.Enum values) = types.Enum values
type_body (body.Input fields) = types.Input fields

abbrev pub type_def : Definition → TypeDef
type_def d = record { name = d.name; body = type_body d.body }

abbrev pub scalar : Name → TypeDef
scalar name = record { name = name; body = types.Scalar }

-- the scalars that are there, and the types that are defined
abbrev pub schema_of : List Part → List TypeDef
schema_of ps = map scalar built_in ++ map type_def (definitions ps)

-- ---- what the rules say

abbrev pub HasRuling : List Part → Ruling → Type 0
HasRuling ps ruling.Kept = (first_twice ps ≡ None) × (first_unknown ps ≡ None)
HasRuling ps (ruling.Twice name) = first_twice ps ≡ Some name
HasRuling ps (ruling.Unknown name) = (first_twice ps ≡ None) × (first_unknown ps ≡ Some name)
