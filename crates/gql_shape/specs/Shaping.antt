-- The answer of an operation over its data (October 2021, sections 6.2 and 6.3): an object of the type Query or Mutation.
use Rattle.std.specs.Prelude.{◌≡◌, ℕ, List, [], ◌∷◌, Option, codes}
use Rattle.json_value.specs.declared.tree.Json.{Json, out-Json}
use Rattle.json_value.specs.declared.tree.Json.TheOpen.{Json-F}
use Rattle.gql_terms.specs.declared.documents.OpKind.{OpKind}
use Rattle.gql_terms.specs.declared.documents.OpKind.TheVariants as kinds
use Rattle.gql_terms.specs.declared.documents.Operation.{Operation}
use Rattle.gql_terms.specs.declared.documents.Document.{Document}
use Rattle.gql_types.specs.declared.definition.TypeDef.{TypeDef}
use Rattle.gql_shape.specs.declared.shaped.Shaped.{Shaped}
use Rattle.gql_shape.specs.Terms.{Scope, Group}
use Rattle.gql_shape.specs.Collecting.{Selects}
use Rattle.gql_shape.specs.Completing.{CompletesFields, object_or_null}

abbrev pub root_type : OpKind → List ℕ
root_type kinds.Mutation = codes "Mutation"
root_type _ = codes "Query"

abbrev pub members_at : Json-F Json → List (List ℕ × Json)
members_at (Json-F.Object members) = members
members_at _ = []

-- the members of an object; another value has none
abbrev pub members_of : Json → List (List ℕ × Json)
members_of v = members_at (out-Json v)

pub record IsShaped (s : Scope) (operation : Operation) (tree : Json) (shaped : Shaped) : Type 0 where
  pub groups : List Group
  pub members : Option (List (List ℕ × Json))
  pub selected : Selects s (root_type operation.kind) operation.selections groups
  pub completed : CompletesFields s (root_type operation.kind) (members_of tree) [] groups members shaped.errors
  pub value : shaped.value ≡ object_or_null members

abbrev pub answers : Scope → List Operation → Json → Shaped → Type 0
answers s [] tree shaped = ⊥
answers s (operation ∷ _) tree shaped = IsShaped s operation tree shaped

-- the document's operation, read in the schema with these variables, has that answer over the data
abbrev pub IsShaping : List TypeDef → Document → Json → Json → Shaped → Type 0
IsShaping schema document variables tree shaped =
    answers (record { schema = schema; fragments = document.fragments; variables = variables }) document.operations tree shaped
