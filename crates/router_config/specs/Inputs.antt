-- Input types (GraphQL October 2021, section 3.4.2).
use Rattle.std.specs.Prelude.{ℕ, Bool, true, false, List, Option, Some}
use Rattle.gql_terms.specs.declared.documents.TypeRef.{TypeRef}
use Rattle.gql_terms.specs.declared.documents.TypeRef.TheOpen.{TypeRef-F}
use Rattle.gql_terms.specs.declared.documents.TypeRef.TheFolds.{fold-TypeRef}
use Rattle.gql_types.specs.declared.definition.Kind.{Kind}
use Rattle.gql_types.specs.declared.definition.Kind.TheVariants as kinds
use Rattle.gql_types.specs.declared.definition.TypeDef.{TypeDef}
use Rattle.gql_types.specs.Schemas.{kind}

abbrev pub innermost_step : TypeRef-F (List ℕ) → List ℕ
innermost_step (TypeRef-F.Named name) = name
innermost_step (TypeRef-F.ListOf inner) = inner
innermost_step (TypeRef-F.NonNull inner) = inner

-- the name of a type without its lists and its non-null marks
abbrev pub innermost : TypeRef → List ℕ
innermost = fold-TypeRef (List ℕ) innermost_step

abbrev pub is_input_kind : Option Kind → Bool
is_input_kind (Some kinds.Scalar) = true
is_input_kind (Some kinds.Enum) = true
is_input_kind (Some kinds.Input) = true
is_input_kind _ = false

-- the schema has a scalar, an enum or an input type of this name
abbrev pub is_input : List TypeDef → List ℕ → Bool
is_input schema name = is_input_kind (kind schema name)
