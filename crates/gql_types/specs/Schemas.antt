-- What a schema, as the list of its types, says of a name.
use Rattle.std.specs.Prelude.{ℕ, Bool, false, ◌||◌, List, [], ◌∷◌, map, Option, Some, None, if◌then◌else◌}
use Rattle.std.specs.Str.{bytes_eq}
use Rattle.gql_terms.specs.declared.documents.TypeRef.{TypeRef}
use Rattle.gql_types.specs.declared.definition.Kind.{Kind}
use Rattle.gql_types.specs.declared.definition.Kind.TheVariants as kinds
use Rattle.gql_types.specs.declared.definition.FieldDef.{FieldDef}
use Rattle.gql_types.specs.declared.definition.InputField.{InputField}
use Rattle.gql_types.specs.declared.definition.TypeBody.{TypeBody}
use Rattle.gql_types.specs.declared.definition.TypeBody.TheVariants as body
use Rattle.gql_types.specs.declared.definition.TypeDef.{TypeDef}
use Rattle.gql_types.specs.Index.{input_field_name}

abbrev pub is_among : List (List ℕ) → List ℕ → Bool
is_among [] name = false
is_among (n ∷ ns) name = bytes_eq n name || is_among ns name

abbrev pub kind_of : TypeBody → Kind
kind_of body.Scalar = kinds.Scalar
kind_of (body.Object _ _) = kinds.Object
kind_of (body.Interface _ _) = kinds.Interface
kind_of (body.Union _) = kinds.Union
kind_of (body.Enum _) = kinds.Enum
kind_of (body.Input _) = kinds.Input

abbrev pub fields_of : TypeBody → List FieldDef
fields_of (body.Object _ fields) = fields
fields_of (body.Interface _ fields) = fields
fields_of _ = []

abbrev pub interfaces_of : TypeBody → List (List ℕ)
interfaces_of (body.Object interfaces _) = interfaces
interfaces_of (body.Interface interfaces _) = interfaces
interfaces_of _ = []

-- the first type with the name
abbrev pub body_of : List TypeDef → List ℕ → Option TypeBody
body_of [] name = None
body_of (t ∷ ts) name = if bytes_eq t.name name then Some t.body else body_of ts name

abbrev pub kind_of_some : Option TypeBody → Option Kind
kind_of_some None = None
kind_of_some (Some b) = Some (kind_of b)

abbrev pub kind : List TypeDef → List ℕ → Option Kind
kind schema name = kind_of_some (body_of schema name)

abbrev pub field_of : List FieldDef → List ℕ → Option TypeRef
field_of [] name = None
field_of (f ∷ fs) name = if bytes_eq f.name name then Some f.of else field_of fs name

abbrev pub field_of_some : List ℕ → Option TypeBody → Option TypeRef
field_of_some name None = None
field_of_some name (Some b) = field_of (fields_of b) name

-- the type of a field of an object type or an interface
abbrev pub field : List TypeDef → List ℕ → List ℕ → Option TypeRef
field schema type_name name = field_of_some name (body_of schema type_name)

abbrev pub has_value_of : List ℕ → Option TypeBody → Bool
has_value_of value (Some (body.Enum values)) = is_among values value
has_value_of value _ = false

-- this is an enum that has the value
abbrev pub has_value : List TypeDef → List ℕ → List ℕ → Bool
has_value schema name value = has_value_of value (body_of schema name)

abbrev pub inputs_of : Option TypeBody → Option (List InputField)
inputs_of (Some (body.Input fields)) = Some fields
inputs_of _ = None

-- the fields of an input type
abbrev pub inputs : List TypeDef → List ℕ → Option (List InputField)
inputs schema name = inputs_of (body_of schema name)

abbrev pub has_input_of : List ℕ → Option TypeBody → Bool
has_input_of field (Some (body.Input fields)) = is_among (map input_field_name fields) field
has_input_of field _ = false

-- this is an input type that has the field
abbrev pub has_input : List TypeDef → List ℕ → List ℕ → Bool
has_input schema name field = has_input_of field (body_of schema name)

abbrev pub lists_of : List ℕ → Option TypeBody → Bool
lists_of name None = false
lists_of name (Some b) = is_among (interfaces_of b) name

-- the type lists the name among its interfaces
abbrev pub lists : List TypeDef → List ℕ → List ℕ → Bool
lists schema type_name name = lists_of name (body_of schema type_name)

-- what a condition that is another name says of the type
abbrev pub meets : List TypeDef → List ℕ → List ℕ → Option TypeBody → Bool
meets schema object name (Some (body.Interface _ _)) = lists schema object name
meets schema object name (Some (body.Union members)) = is_among members object
meets schema object name _ = false

-- equal, or the type lists the interface, or the union lists the type
abbrev pub implements_or_is : List TypeDef → List ℕ → List ℕ → Bool
implements_or_is schema object condition = bytes_eq object condition || meets schema object condition (body_of schema condition)
