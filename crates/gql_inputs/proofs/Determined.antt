-- A value is coerced to one outcome.
use Rattle.std.proofs.Common.{◌≡◌, ℕ, Bool, true, false, List, Option, Some, None, refl, sym, ap, ◌∙◌, subst}
use Rattle.json_value.specs.declared.tree.Json.{Json}
use Rattle.json_paths.specs.declared.path.Spot.{Spot}
use Rattle.gql_terms.specs.declared.documents.TypeRef.{TypeRef}
use Rattle.gql_terms.specs.declared.documents.Value.{Value}
use Rattle.gql_types.specs.declared.definition.TypeDef.{TypeDef}
use Rattle.gql_types.specs.declared.definition.InputField.{InputField}
use Rattle.gql_inputs.specs.Constants.{constant}
use Rattle.gql_inputs.specs.Coercing.{InputRule, Coerced, fine, refused, after, after_some, as_list, as_one, as_some, as_object, unknown_name, Coerces, by_rule, FollowsRule, null_stays, is_wrong, leaf_stays, by_element, is_alone, by_field, Items, no_more, stops, another, CoercesField, is_given, is_default, is_left_out, is_missing, CoercesFields, no_field, field_stops, next_field}

pub some_same : {X : Type 0} {x y : X} → Some x ≡ Some y → x ≡ y
some_same e = cc

pub two_ways : {X : Type 0} {o : Option X} {x : X} → o ≡ Some x → o ≡ None → ⊥
two_ways e f = cc

pub both_values : {b : Bool} → b ≡ true → b ≡ false → ⊥
both_values e f = cc

pub fine_same : {X : Type 0} {x y : X} → fine x ≡ fine y → x ≡ y
fine_same e = cc

pub refused_same : {X : Type 0} {p q : List Spot} → ◌≡◌ {A = Coerced X} (refused p) (refused q) → p ≡ q
refused_same e = cc

pub not_both : {X : Type 0} {x : X} {q : List Spot} → ◌≡◌ {A = Coerced X} (fine x) (refused q) → ⊥
not_both e = cc

pub at_value : (schema : List TypeDef) (of : TypeRef) (p : List Spot) (o : Coerced Json) (v w : Json) → v ≡ w → Coerces schema of w p o → Coerces schema of v p o
at_value schema of p o v w e c = subst (λ (k : Json). Coerces schema of k p o) (sym e) c

module _ (schema : List TypeDef) where
  mutual
    pub Coerces-one : {of : TypeRef} {v : Json} {p : List Spot} {o o' : Coerced Json} → Coerces schema of v p o → Coerces schema of v p o' → o ≡ o'
    Coerces-one (by_rule f) (by_rule f') = Follows-one f f'

    pub Follows-one : {r : InputRule} {v : Json} {p : List Spot} {o o' : Coerced Json} → FollowsRule schema r v p o → FollowsRule schema r v p o' → o ≡ o'
    Follows-one null_stays null_stays = refl
    Follows-one is_wrong is_wrong = refl
    Follows-one leaf_stays leaf_stays = refl
    Follows-one (by_element e) (by_element e') = ap as_list (Items-one e e')
    Follows-one (is_alone c) (is_alone c') = ap as_one (Coerces-one c c')
    Follows-one (by_field {p = p} {fields = fields} {members = members} f) (by_field f') = ap (as_object p (unknown_name fields members)) (Fields-one f f')

    pub Items-one : {t : TypeRef} {p : List Spot} {i : ℕ} {vs : List Json} {o o' : Coerced (List Json)} → Items schema t p i vs o → Items schema t p i vs o' → o ≡ o'
    Items-one no_more no_more = refl
    Items-one (stops c) (stops c') = ap (λ (q : List Spot). refused q) (refused_same (Coerces-one c c'))
    Items-one (stops c) (another c' e') = absurd (not_both (sym (Coerces-one c c')))
    Items-one (another c e) (stops c') = absurd (not_both (Coerces-one c c'))
    Items-one (another {o = o} c e) (another {w = w'} c' e') =
        ap (λ (w : Json). after w o) (fine_same (Coerces-one c c')) ∙ ap (after w') (Items-one e e')

    pub Field-one : {members : List (List ℕ × Json)} {p : List Spot} {f : InputField} {o o' : Coerced (Option Json)} → CoercesField schema members p f o → CoercesField schema members p f o' → o ≡ o'
    Field-one (is_given {p = p} {f = f} {v = v} is c) (is_given {v = v'} {o = o'} is' c') = ap as_some (Coerces-one c (at_value schema f.of _ o' v v' (some_same (sym is ∙ is')) c'))
    Field-one (is_given is c) (is_default is' d') = absurd (two_ways is is')
    Field-one (is_given is c) (is_left_out is' d' r') = absurd (two_ways is is')
    Field-one (is_given is c) (is_missing is' d' r') = absurd (two_ways is is')
    Field-one (is_default is d) (is_given is' c') = absurd (two_ways is' is)
    Field-one (is_default is d) (is_default is' d') = ap (λ (c : Value). fine (Some (constant c))) (some_same (sym d ∙ d'))
    Field-one (is_default is d) (is_left_out is' d' r') = absurd (two_ways d d')
    Field-one (is_default is d) (is_missing is' d' r') = absurd (two_ways d d')
    Field-one (is_left_out is d r) (is_given is' c') = absurd (two_ways is' is)
    Field-one (is_left_out is d r) (is_default is' d') = absurd (two_ways d' d)
    Field-one (is_left_out is d r) (is_left_out is' d' r') = refl
    Field-one (is_left_out is d r) (is_missing is' d' r') = absurd (both_values r' r)
    Field-one (is_missing is d r) (is_given is' c') = absurd (two_ways is' is)
    Field-one (is_missing is d r) (is_default is' d') = absurd (two_ways d' d)
    Field-one (is_missing is d r) (is_left_out is' d' r') = absurd (both_values r r')
    Field-one (is_missing is d r) (is_missing is' d' r') = refl

    pub Fields-one : {members : List (List ℕ × Json)} {p : List Spot} {fs : List InputField} {o o' : Coerced (List (List ℕ × Json))} → CoercesFields schema members p fs o → CoercesFields schema members p fs o' → o ≡ o'
    Fields-one no_field no_field = refl
    Fields-one (field_stops c) (field_stops c') = ap (λ (q : List Spot). refused q) (refused_same (Field-one c c'))
    Fields-one (field_stops c) (next_field c' e') = absurd (not_both (sym (Field-one c c')))
    Fields-one (next_field c e) (field_stops c') = absurd (not_both (Field-one c c'))
    Fields-one (next_field {f = f} {o = o} c e) (next_field {w = w'} c' e') =
        ap (λ (w : Option Json). after_some f.name w o) (fine_same (Field-one c c')) ∙ ap (after_some f.name w') (Fields-one e e')
