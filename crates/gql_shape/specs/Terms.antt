-- The values that shaping speaks of.
use Rattle.std.specs.Prelude.{ℕ, List}
use Rattle.json_value.specs.declared.tree.Json.{Json}
use Rattle.gql_terms.specs.declared.documents.Selection.{Selection}
use Rattle.gql_terms.specs.declared.documents.Fragment.{Fragment}
use Rattle.gql_types.specs.declared.definition.TypeDef.{TypeDef}

-- what an operation is read in
pub record Scope : Type 0 where
  pub schema : List TypeDef
  pub fragments : List Fragment
  pub variables : Json

-- a field that a selection set selects, by the name that it has in the answer
pub record Field : Type 0 where
  pub key : List ℕ
  pub name : List ℕ
  pub selections : List Selection

-- the fields of one key
pub record Group : Type 0 where
  pub first : Field
  pub more : List Field

-- what a collection has so far: the spreads that it took, and the groups in order of first appearance
pub record Collection : Type 0 where
  pub seen : List (List ℕ)
  pub groups : List Group
