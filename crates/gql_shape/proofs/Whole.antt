-- One answer, and none of its errors where the data is whole.
use Rattle.std.proofs.Common.{◌≡◌, ℕ, List, [], ◌∷◌, ◌++◌, Option, refl, sym, ap, ◌∙◌, subst}
use Rattle.json_value.specs.declared.tree.Json.{Json}
use Rattle.json_value.specs.Members.{named}
use Rattle.json_paths.specs.declared.path.Spot.{Spot}
use Rattle.gql_terms.specs.declared.documents.TypeRef.{TypeRef}
use Rattle.gql_terms.specs.declared.documents.Selection.{Selection}
use Rattle.gql_terms.specs.declared.documents.Operation.{Operation}
use Rattle.gql_terms.specs.declared.documents.Document.{Document}
use Rattle.gql_types.specs.declared.definition.TypeDef.{TypeDef}
use Rattle.gql_shape.specs.declared.shaped.ShapeError.{ShapeError}
use Rattle.gql_shape.specs.declared.shaped.Shaped.{Shaped}
use Rattle.gql_shape.specs.Terms.{Scope, Group}
use Rattle.gql_shape.specs.Completing.{CompletionRule, object_or_null, Completes, by_rule, CompletesByRule, null_stays, leaf_stays, by_element, by_field, Elements, no_more, climbs, another, CompletesFields, all_done, its_type, left_out, field_climbs, field_stays, rule, or_null, selections_of}
use Rattle.gql_shape.specs.Shaping.{IsShaped, answers, IsShaping, root_type, members_of}
use Rattle.gql_shape.specs.Whole.{IsWholeByRule, null_is_whole, leaf_is_whole, list_is_whole, object_is_whole, AreWhole, no_item, item, HasWhole, no_group, name_of_type, no_field, a_field, has_whole, IsWholeData}
use Rattle.gql_shape.proofs.Determined.{Selects-one, Fields-one, type_unknown, type_typed, unknown_typed, typed_same, both_append}

-- ---- one answer

answer_one : (s : Scope) (operation : Operation) (tree : Json) (a b : Shaped) → IsShaped s operation tree a → IsShaped s operation tree b → a ≡ b
answer_one s operation tree a b x y =
    let same = Selects-one s (root_type operation.kind) operation.selections x.groups y.groups x.selected y.selected in
    let h = Fields-one s x.completed (subst (λ (gs : List Group). CompletesFields s (root_type operation.kind) (members_of tree) [] gs y.members b.errors) (sym same) y.completed) in
    let value : a.value ≡ b.value = x.value ∙ (ap object_or_null h.0 ∙ sym y.value) in
    let errors : a.errors ≡ b.errors = h.1 in
    λ i. record { value = value i; errors = errors i }

answers_one : (s : Scope) (operations : List Operation) (tree : Json) (a b : Shaped) → answers s operations tree a → answers s operations tree b → a ≡ b
answers_one s [] tree a b x y = absurd x
answers_one s (operation ∷ more) tree a b x y = answer_one s operation tree a b x y

pub shaping_is_one : (schema : List TypeDef) (document : Document) (variables tree : Json) (a b : Shaped) → IsShaping schema document variables tree a → IsShaping schema document variables tree b → a ≡ b
shaping_is_one schema document variables tree a b x y = answers_one (record { schema = schema; fragments = document.fragments; variables = variables }) document.operations tree a b x y

-- ---- no errors

nothing_more : {X : Type 0} {xs ys : List X} → xs ≡ [] → ys ≡ [] → xs ++ ys ≡ []
nothing_more e f = both_append e f

of_type : (s : Scope) (t u : TypeRef) (v : Json) (xs : List Selection) → t ≡ u → IsWholeByRule s (rule s.schema t v) xs → IsWholeByRule s (rule s.schema u v) xs
of_type s t u v xs e is = subst (λ (k : TypeRef). IsWholeByRule s (rule s.schema k v) xs) e is

module _ (s : Scope) where
  mutual
    pub whole-Follows : {r : CompletionRule} {xs : List Selection} {p : List Spot} {w : Json} {es : List ShapeError} → IsWholeByRule s r xs → CompletesByRule s r xs p w es → es ≡ []
    whole-Follows null_is_whole null_stays = refl
    whole-Follows leaf_is_whole leaf_stays = refl
    whole-Follows (list_is_whole are) (by_element e) = whole-Elements are e
    whole-Follows (object_is_whole {xs} {object} {members} {groups} selects has) (by_field {p = p} {groups = groups'} {o = o} {es = es} selects' f) =
        let same = Selects-one s object xs groups groups' selects selects' in
        whole-Fields (subst (λ (gs : List Group). HasWhole s object members gs) same has) f

    pub whole-Completes : {of : TypeRef} {xs : List Selection} {v : Json} {p : List Spot} {o : Option Json} {es : List ShapeError} → IsWholeByRule s (rule s.schema of v) xs → Completes s of xs v p o es → es ≡ []
    whole-Completes is (by_rule f) = whole-Follows is f

    pub whole-Elements : {t : TypeRef} {xs : List Selection} {p : List Spot} {i : ℕ} {vs : List Json} {o : Option (List Json)} {es : List ShapeError} → AreWhole s t xs vs → Elements s t xs p i vs o es → es ≡ []
    whole-Elements no_item no_more = refl
    whole-Elements (item is are) (climbs c) = whole-Completes is c
    whole-Elements (item is are) (another c e) = nothing_more (whole-Completes is c) (whole-Elements are e)

    pub whole-Fields : {object : List ℕ} {members : List (List ℕ × Json)} {p : List Spot} {gs : List Group} {o : Option (List (List ℕ × Json))} {es : List ShapeError} →
        HasWhole s object members gs → CompletesFields s object members p gs o es → es ≡ []
    whole-Fields no_group all_done = refl
    whole-Fields (name_of_type is has) (its_type is' f) = whole-Fields has f
    whole-Fields (name_of_type is has) (left_out is' f) = absurd (type_unknown is is')
    whole-Fields (name_of_type is has) (field_climbs is' c) = absurd (type_typed is is')
    whole-Fields (name_of_type is has) (field_stays is' c f) = absurd (type_typed is is')
    whole-Fields (no_field is has) (its_type is' f) = absurd (type_unknown is' is)
    whole-Fields (no_field is has) (left_out is' f) = whole-Fields has f
    whole-Fields (no_field is has) (field_climbs is' c) = absurd (unknown_typed is is')
    whole-Fields (no_field is has) (field_stays is' c f) = absurd (unknown_typed is is')
    whole-Fields (a_field is whole has) (its_type is' f) = absurd (type_typed is' is)
    whole-Fields (a_field is whole has) (left_out is' f) = absurd (unknown_typed is' is)
    whole-Fields (a_field {members = members} {g = g} {t = t} is whole has) (field_climbs {t = u} is' c) = whole-Completes (of_type s t u (or_null (named g.first.key members)) (selections_of g) (typed_same is is') whole) c
    whole-Fields (a_field {members = members} {g = g} {t = t} is whole has) (field_stays {t = u} is' c f) = nothing_more (whole-Completes (of_type s t u (or_null (named g.first.key members)) (selections_of g) (typed_same is is') whole) c) (whole-Fields has f)

has_whole_no_errors : (s : Scope) (operations : List Operation) (tree : Json) (a : Shaped) → has_whole s operations tree → answers s operations tree a → a.errors ≡ []
has_whole_no_errors s [] tree a x y = absurd x
has_whole_no_errors s (operation ∷ more) tree a x y = whole-Follows s {p = []} {w = object_or_null y.members} x (by_field y.selected y.completed)

pub whole_no_errors : (schema : List TypeDef) (document : Document) (variables tree : Json) (a : Shaped) → IsWholeData schema document variables tree → IsShaping schema document variables tree a → a.errors ≡ []
whole_no_errors schema document variables tree a x y = has_whole_no_errors (record { schema = schema; fragments = document.fragments; variables = variables }) document.operations tree a x y
