-- What serves proofs alone: the rules of fields as they are kept. No public clause speaks of them.
use Rattle.std.specs.Prelude.{◌≡◌, ℕ, Bool, true, false, ◌||◌, List, [], ◌∷◌, ◌++◌, Option, Some, None, if◌then◌else◌, codes}
use Rattle.std.specs.Str.{bytes_eq}
use Rattle.json_value.specs.declared.tree.Json.{Json}
use Rattle.json_value.specs.declared.tree.Json.TheOpen.{Json-F}
use Rattle.json_value.specs.Members.{named}
use Rattle.json_paths.specs.declared.path.Spot.{Spot}
use Rattle.json_paths.specs.declared.path.Spot.TheVariants as spot
use Rattle.gql_terms.specs.declared.documents.TypeRef.{TypeRef}
use Rattle.gql_terms.specs.declared.documents.TypeRef.TheOpen.{TypeRef-F}
use Rattle.gql_terms.specs.declared.documents.TypeRef.TheFolds.{fold-TypeRef}
use Rattle.gql_terms.specs.declared.documents.Selection.{Selection}
use Rattle.gql_types.specs.declared.definition.Kind.{Kind}
use Rattle.gql_types.specs.declared.definition.Kind.TheVariants as kinds
use Rattle.gql_types.specs.declared.definition.TypeDef.{TypeDef}
use Rattle.gql_types.specs.Schemas as schemas
use Rattle.gql_leaves.specs.Leaves.{is_integer, is_number, is_string, is_bool, enum_fits}
use Rattle.gql_shape.specs.declared.base.Base.{Base}
use Rattle.gql_shape.specs.declared.base.Base.TheVariants as bases
use Rattle.gql_shape.specs.declared.rule.FieldRule as answer
use Rattle.gql_shape.specs.declared.rule.FieldRule.TheVariants as answers
use Rattle.gql_shape.specs.declared.shaped.ShapeError.{ShapeError}
use Rattle.gql_shape.specs.Terms.{Scope}
use Rattle.gql_shape.specs.Completing.{FieldRule, type_name, unknown, typed, field_rule, or_null, Completes}

-- ---- the name in a type

abbrev pub base_step : TypeRef-F (List ℕ) → List ℕ
base_step (TypeRef-F.Named name) = name
base_step (TypeRef-F.ListOf name) = name
base_step (TypeRef-F.NonNull name) = name

-- the name under all marks and lists
abbrev pub base_name : TypeRef → List ℕ
base_name = fold-TypeRef (List ℕ) base_step

abbrev pub scalar_base : List ℕ → Base
scalar_base name =
    if bytes_eq name (codes "Int") then bases.Int
    else if bytes_eq name (codes "Float") then bases.Float
    else if bytes_eq name (codes "String") then bases.Str
    else if bytes_eq name (codes "Boolean") then bases.Bool
    else if bytes_eq name (codes "ID") then bases.Id
    else bases.Custom

abbrev pub base_by : List ℕ → Option Kind → Base
base_by name (Some kinds.Scalar) = scalar_base name
base_by name (Some kinds.Enum) = bases.Enum
base_by name (Some kinds.Object) = bases.Composite
base_by name (Some kinds.Interface) = bases.Composite
base_by name (Some kinds.Union) = bases.Composite
base_by name _ = bases.Other

-- what the schema has by this name
abbrev pub base_named : List TypeDef → List ℕ → Base
base_named schema name = base_by name (schemas.kind schema name)

-- what the schema has by the name in the type
abbrev pub base_of : List TypeDef → TypeRef → Base
base_of schema of = base_named schema (base_name of)

abbrev pub is_composite_base : Base → Bool
is_composite_base bases.Composite = true
is_composite_base _ = false

abbrev pub base_fits : List TypeDef → List ℕ → Json-F Json → Base → Bool
base_fits schema name v bases.Int = is_integer v
base_fits schema name v bases.Float = is_number v
base_fits schema name v bases.Str = is_string v
base_fits schema name v bases.Bool = is_bool v
base_fits schema name v bases.Id = is_string v || is_integer v
base_fits schema name v bases.Custom = true
base_fits schema name v bases.Enum = enum_fits schema name v
base_fits schema name v _ = false

-- ---- the rule of a field

-- what is kept of a rule: beside a type what its name is
pub data KeptRule : Type 0 where
  its_name : KeptRule
  lacks : KeptRule
  of_type : TypeRef → Base → KeptRule

-- what the code keeps
abbrev pub shown_rule : answer.FieldRule → KeptRule
shown_rule answers.TypeName = its_name
shown_rule answers.Unknown = lacks
shown_rule (answers.Typed of base) = of_type of.now base

abbrev pub kept_as : List TypeDef → FieldRule → KeptRule
kept_as schema type_name = its_name
kept_as schema unknown = lacks
kept_as schema (typed of) = of_type of (base_of schema of)

-- what is kept for the field with this name of an object type
abbrev pub kept_rule : List TypeDef → List ℕ → List ℕ → KeptRule
kept_rule schema object name = kept_as schema (field_rule schema object name)

-- ---- the member of a field

-- the value by its key, if there is one
abbrev pub member_of : List ℕ → Option Json → Option (List ℕ × Json)
member_of key None = None
member_of key (Some v) = Some (key, v)

-- what the member with the key, or null, is completed to is the member of the answer
pub record CompletesField (s : Scope) (of : TypeRef) (xs : List Selection) (key : List ℕ) (members : List (List ℕ × Json)) (p : List Spot) (m : Option (List ℕ × Json)) (es : List ShapeError) : Type 0 where
  pub value : Option Json
  pub completes : Completes s of xs (or_null (named key members)) (p ++ (spot.Name key ∷ [])) value es
  pub member : m ≡ member_of key value
