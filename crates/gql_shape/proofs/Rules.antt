-- What the rules come to, by the kinds of value.
use Rattle.std.proofs.Common.{◌≡◌, ℕ, Bool, true, false, cond, List, [], ◌∷◌, Option, Some, None, refl, ap, ◌∙◌, subst, inl, inr}
use Rattle.std.specs.Prelude.{not, ◌&&◌}
use Rattle.json_value.specs.declared.tree.Json.{Json, out-Json}
use Rattle.json_value.specs.declared.tree.Json.TheOpen.{Json-F}
use Rattle.json_value.specs.declared.tree.Json.TheVariants as j
use Rattle.json_paths.specs.declared.path.Spot.{Spot}
use Rattle.gql_terms.specs.declared.documents.TypeRef.{TypeRef}
use Rattle.gql_terms.specs.declared.documents.Selection.{Selection}
use Rattle.gql_types.specs.declared.definition.TypeDef.{TypeDef}
use Rattle.gql_leaves.specs.Bares.{Bare, named as named_type, list_of, bare, is_required}
use Rattle.gql_leaves.specs.Leaves.{fits}
use Rattle.gql_shape.specs.declared.shaped.ShapeCode.TheVariants as code
use Rattle.gql_shape.specs.declared.shaped.ShapeError.{ShapeError}
use Rattle.gql_shape.proofs.Spreads.{either}
use Rattle.gql_shape.specs.Terms.{Scope}
use Rattle.gql_shape.specs.Completing.{CompletionRule, null, missing, wrong, leaf, elements, rule, rule_of, value_rule, composite_rule, is_composite, plain_rule, fields_rule, list_type, composite_type, object_type, kept, error, Completes, by_rule, CompletesByRule, null_stays, null_is_missing, IsLeft}

-- ---- null

pub null_required : (s : Scope) (of : TypeRef) (xs : List Selection) (p : List Spot) (es : List ShapeError) →
    is_required of ≡ true → es ≡ error code.NullInNonNull p ∷ [] → Completes s of xs j.Null p None es
null_required s of xs p es required is =
    let r : rule s.schema of j.Null ≡ missing = rw (j.outs-Null, required) refl in
    let follows : CompletesByRule s (rule s.schema of j.Null) xs p j.Null (error code.NullInNonNull p ∷ []) = rw r null_is_missing in
    let o : kept (is_required of) j.Null ≡ None = rw (required, j.outs-Null) refl in
    rw is (subst (λ (k : Option Json). Completes s of xs j.Null p k (error code.NullInNonNull p ∷ [])) o (by_rule follows))

pub null_allowed : (s : Scope) (of : TypeRef) (xs : List Selection) (p : List Spot) → is_required of ≡ false → Completes s of xs j.Null p (Some j.Null) []
null_allowed s of xs p required =
    let r : rule s.schema of j.Null ≡ null = rw (j.outs-Null, required) refl in
    let follows : CompletesByRule s (rule s.schema of j.Null) xs p j.Null [] = rw r null_stays in
    let o : kept (is_required of) j.Null ≡ Some j.Null = rw required refl in
    subst (λ (k : Option Json). Completes s of xs j.Null p k []) o (by_rule follows)

-- ---- the rules

leaf_or_wrong : (composite fitting : Bool) (r : CompletionRule) → cond composite wrong (cond fitting r wrong) ≡ cond (not composite && fitting) r wrong
leaf_or_wrong true fitting r = refl
leaf_or_wrong false fitting r = refl

module _ (schema : List TypeDef) where
  named_plain : (name : List ℕ) (v : Json) (layer : Json-F Json) → composite_rule schema name layer ≡ wrong → value_rule schema (named_type name) v layer ≡ plain_rule schema (named_type name) v
  named_plain name v layer no_object = rw no_object (leaf_or_wrong (is_composite schema name) (fits schema name v) (leaf v))

  value_plain : (b : Bare) (v : Json) (layer : Json-F Json) → ((t : TypeRef) → value_rule schema (list_of t) v layer ≡ wrong) → ((name : List ℕ) → composite_rule schema name layer ≡ wrong) →
      value_rule schema b v layer ≡ plain_rule schema b v
  value_plain (list_of t) v layer no_list no_object = no_list t
  value_plain (named_type name) v layer no_list no_object = named_plain name v layer (no_object name)

  no_list : (b : Bare) (v : Json) (items : List Json) → list_type b ≡ None → value_rule schema b v (Json-F.List items) ≡ plain_rule schema b v
  no_list (list_of t) v items found = absurd cc
  no_list (named_type name) v items found = named_plain name v (Json-F.List items) refl

  a_list : (b : Bare) (v : Json) (items : List Json) (t : TypeRef) → list_type b ≡ Some t → value_rule schema b v (Json-F.List items) ≡ elements t items
  a_list (list_of u) v items t found = let same : u ≡ t = cc in ap (λ (k : TypeRef). elements k items) same
  a_list (named_type name) v items t found = absurd cc

  no_object : (b : Bare) (v : Json) (ms : List (List ℕ × Json)) → composite_type schema b ≡ None → value_rule schema b v (Json-F.Object ms) ≡ plain_rule schema b v
  no_object (list_of t) v ms found = refl
  no_object (named_type name) v ms found = elim (either (is_composite schema name)) [
    | inl is ↦ (let some : Some name ≡ None = rw is at found in absurd cc)
    | inr other ↦ rw other refl
  ]

  an_object : (b : Bare) (v : Json) (ms : List (List ℕ × Json)) (name : List ℕ) → composite_type schema b ≡ Some name →
      value_rule schema b v (Json-F.Object ms) ≡ fields_rule ms (object_type schema name ms)
  an_object (list_of t) v ms name found = absurd cc
  an_object (named_type other) v ms name found = elim (either (is_composite schema other)) [
    | inl is ↦ (
        let some : Some other ≡ Some name = rw is at found in
        let same : other ≡ name = cc in
        rw is (ap (λ (n : List ℕ). fields_rule ms (object_type schema n ms)) same))
    | inr not_it ↦ (let none : None ≡ Some name = rw not_it at found in absurd cc)
  ]

module _ (schema : List TypeDef) (of : TypeRef) (v : Json) where
  at_layer : (layer : Json-F Json) (w : Json) → v ≡ w → out-Json w ≡ layer → rule schema of v ≡ rule_of schema of v layer
  at_layer layer w is out = ap (rule_of schema of v) (ap out-Json is ∙ out)

  pub rule-Bool : (b : Bool) → v ≡ j.Bool b → rule schema of v ≡ plain_rule schema (bare of) v
  rule-Bool b is = at_layer (Json-F.Bool b) (j.Bool b) is (j.outs-Bool b) ∙ value_plain schema (bare of) v (Json-F.Bool b) (λ t. refl) (λ name. refl)

  pub rule-Number : (text : List ℕ) → v ≡ j.Number text → rule schema of v ≡ plain_rule schema (bare of) v
  rule-Number text is = at_layer (Json-F.Number text) (j.Number text) is (j.outs-Number text) ∙ value_plain schema (bare of) v (Json-F.Number text) (λ t. refl) (λ name. refl)

  pub rule-Str : (text : List ℕ) → v ≡ j.Str text → rule schema of v ≡ plain_rule schema (bare of) v
  rule-Str text is = at_layer (Json-F.Str text) (j.Str text) is (j.outs-Str text) ∙ value_plain schema (bare of) v (Json-F.Str text) (λ t. refl) (λ name. refl)

  pub rule-no_list : (items : List Json) → v ≡ j.List items → list_type (bare of) ≡ None → rule schema of v ≡ plain_rule schema (bare of) v
  rule-no_list items is found = at_layer (Json-F.List items) (j.List items) is (j.outs-List items) ∙ no_list schema (bare of) v items found

  pub rule-list : (items : List Json) (t : TypeRef) → v ≡ j.List items → list_type (bare of) ≡ Some t → rule schema of v ≡ elements t items
  rule-list items t is found = at_layer (Json-F.List items) (j.List items) is (j.outs-List items) ∙ a_list schema (bare of) v items t found

  pub rule-no_object : (ms : List (List ℕ × Json)) → v ≡ j.Object ms → composite_type schema (bare of) ≡ None → rule schema of v ≡ plain_rule schema (bare of) v
  rule-no_object ms is found = at_layer (Json-F.Object ms) (j.Object ms) is (j.outs-Object ms) ∙ no_object schema (bare of) v ms found

  pub rule-object : (ms : List (List ℕ × Json)) (name : List ℕ) → v ≡ j.Object ms → composite_type schema (bare of) ≡ Some name → rule schema of v ≡ fields_rule ms (object_type schema name ms)
  rule-object ms name is found = at_layer (Json-F.Object ms) (j.Object ms) is (j.outs-Object ms) ∙ an_object schema (bare of) v ms name found

-- what follows the rule of the value completes it
pub settled : (s : Scope) (of : TypeRef) (xs : List Selection) (v : Json) (p : List Spot) (r : CompletionRule) (o : Option Json) (es : List ShapeError) →
    rule s.schema of v ≡ r → IsLeft s r (is_required of) xs p o es → Completes s of xs v p o es
settled s of xs v p r o es is settles =
    let follows : CompletesByRule s (rule s.schema of v) xs p settles.value es = rw is settles.follows in
    rw settles.left (by_rule follows)

pub settled_plain : (s : Scope) (of : TypeRef) (xs : List Selection) (v : Json) (p q : List Spot) (o : Option Json) (es : List ShapeError) →
    rule s.schema of v ≡ plain_rule s.schema (bare of) v → ((ys : List Selection) → IsLeft s (plain_rule s.schema (bare of) v) (is_required of) ys q o es) → q ≡ p → Completes s of xs v p o es
settled_plain s of xs v p q o es is settles same = rw (← same) (settled s of xs v q (plain_rule s.schema (bare of) v) o es is (settles xs))
