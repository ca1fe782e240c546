-- Data that has a value of its type in every place that is asked for.
use Rattle.std.specs.Prelude.{◌≡◌, ℕ, List, [], ◌∷◌}
use Rattle.json_value.specs.declared.tree.Json.{Json}
use Rattle.json_value.specs.Members.{named}
use Rattle.gql_terms.specs.declared.documents.TypeRef.{TypeRef}
use Rattle.gql_terms.specs.declared.documents.Selection.{Selection}
use Rattle.gql_terms.specs.declared.documents.Operation.{Operation}
use Rattle.gql_terms.specs.declared.documents.Document.{Document}
use Rattle.gql_types.specs.declared.definition.TypeDef.{TypeDef}
use Rattle.gql_shape.specs.Terms.{Scope, Group}
use Rattle.gql_shape.specs.Collecting.{Selects}
use Rattle.gql_shape.specs.Completing.{CompletionRule, null, leaf, elements, fields, rule, field_rule, type_name, unknown, typed, or_null, selections_of}
use Rattle.gql_shape.specs.Shaping.{root_type, members_of}

-- a value that follows the rule is of its type, and so is every part of it that the selections ask for: none is null in
-- the place of a non-null type
mutual
  pub data IsWholeByRule (s : Scope) : CompletionRule → List Selection → Type 0 where
    null_is_whole : {xs : List Selection} → IsWholeByRule s null xs
    leaf_is_whole : {xs : List Selection} {v : Json} → IsWholeByRule s (leaf v) xs
    list_is_whole : {xs : List Selection} {t : TypeRef} {items : List Json} → AreWhole s t xs items → IsWholeByRule s (elements t items) xs
    object_is_whole : {xs : List Selection} {object : List ℕ} {members : List (List ℕ × Json)} {groups : List Group} →
        Selects s object xs groups → HasWhole s object members groups → IsWholeByRule s (fields object members) xs

  pub data AreWhole (s : Scope) : TypeRef → List Selection → List Json → Type 0 where
    no_item : {t : TypeRef} {xs : List Selection} → AreWhole s t xs []
    item : {t : TypeRef} {xs : List Selection} {v : Json} {vs : List Json} → IsWholeByRule s (rule s.schema t v) xs → AreWhole s t xs vs → AreWhole s t xs (v ∷ vs)

  pub data HasWhole (s : Scope) : List ℕ → List (List ℕ × Json) → List Group → Type 0 where
    no_group : {object : List ℕ} {members : List (List ℕ × Json)} → HasWhole s object members []
    name_of_type : {object : List ℕ} {members : List (List ℕ × Json)} {g : Group} {gs : List Group} →
        field_rule s.schema object g.first.name ≡ type_name → HasWhole s object members gs → HasWhole s object members (g ∷ gs)
    no_field : {object : List ℕ} {members : List (List ℕ × Json)} {g : Group} {gs : List Group} →
        field_rule s.schema object g.first.name ≡ unknown → HasWhole s object members gs → HasWhole s object members (g ∷ gs)
    a_field : {object : List ℕ} {members : List (List ℕ × Json)} {g : Group} {gs : List Group} {t : TypeRef} →
        field_rule s.schema object g.first.name ≡ typed t → IsWholeByRule s (rule s.schema t (or_null (named g.first.key members))) (selections_of g) →
        HasWhole s object members gs → HasWhole s object members (g ∷ gs)

abbrev pub has_whole : Scope → List Operation → Json → Type 0
has_whole s [] tree = ⊥
has_whole s (operation ∷ _) tree = IsWholeByRule s (fields (root_type operation.kind) (members_of tree)) operation.selections

abbrev pub IsWholeData : List TypeDef → Document → Json → Json → Type 0
IsWholeData schema document variables tree = has_whole (record { schema = schema; fragments = document.fragments; variables = variables }) document.operations tree
