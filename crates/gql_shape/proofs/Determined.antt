-- A selection set selects one list of groups, and a value is completed to one value with one list of errors.
use Rattle.std.proofs.Common.{◌≡◌, ℕ, List, ◌++◌, Option, Some, None, refl, sym, ap, ◌∙◌, subst}
use Rattle.json_value.specs.declared.tree.Json.{Json}
use Rattle.json_paths.specs.declared.path.Spot.{Spot}
use Rattle.gql_terms.specs.declared.documents.TypeRef.{TypeRef}
use Rattle.gql_terms.specs.declared.documents.Selection.{Selection}
use Rattle.gql_leaves.specs.Bares.{is_required}
use Rattle.gql_shape.specs.declared.shaped.ShapeError.{ShapeError}
use Rattle.gql_shape.specs.Terms.{Scope, Group, Collection}
use Rattle.gql_shape.specs.Collecting.{Standing, Collects, CollectsOne, none, next, nothing, takes_field, within, spreads, Selects}
use Rattle.gql_shape.specs.Completing.{CompletionRule, FieldRule, type_name, unknown, typed, kept, list_or_null, object_or_null, after, Completes, by_rule, CompletesByRule, null_stays, null_is_missing, is_wrong, leaf_stays, by_element, by_field, Elements, no_more, climbs, another, CompletesFields, all_done, its_type, left_out, field_climbs, field_stays}

pub no_some : {X : Type 0} {x : X} → None ≡ Some x → ⊥
no_some e = cc

pub some_same : {X : Type 0} {x y : X} → Some x ≡ Some y → x ≡ y
some_same e = cc

pub both_after : {X : Type 0} {x y : X} {o o' : Option (List X)} → x ≡ y → o ≡ o' → after x o ≡ after y o'
both_after {X} {x} {y} {o} {o'} e f = ap (λ (z : X). after z o) e ∙ ap (after y) f

pub both_append : {X : Type 0} {xs ys us vs : List X} → xs ≡ ys → us ≡ vs → xs ++ us ≡ ys ++ vs
both_append e f = cc

pub type_unknown : {r : FieldRule} → r ≡ type_name → r ≡ unknown → ⊥
type_unknown e f = cc

pub type_typed : {r : FieldRule} {t : TypeRef} → r ≡ type_name → r ≡ typed t → ⊥
type_typed e f = cc

pub unknown_typed : {r : FieldRule} {t : TypeRef} → r ≡ unknown → r ≡ typed t → ⊥
unknown_typed e f = cc

pub typed_same : {r : FieldRule} {t u : TypeRef} → r ≡ typed t → r ≡ typed u → t ≡ u
typed_same e f = cc

pub at_type : {s : Scope} {t u : TypeRef} {xs : List Selection} {v : Json} {p : List Spot} {o : Option Json} {es : List ShapeError} → t ≡ u → Completes s u xs v p o es → Completes s t xs v p o es
at_type {s} {t} {u} {xs} {v} {p} {o} {es} e c = subst (λ (k : TypeRef). Completes s k xs v p o es) (sym e) c

module _ (s : Scope) (object : List ℕ) where
  mutual
    pub Collects-one : {xs : List Selection} {c d e : Collection} → Collects s object xs c d → Collects s object xs c e → d ≡ e
    Collects-one none none = refl
    Collects-one (next {xs = xs} takes rest) (next {e = e'} takes' rest') =
        let same = Takes-one takes takes' in
        Collects-one rest (subst (λ (k : Collection). Collects s object xs k e') (sym same) rest')

    pub Takes-one : {standing : Standing} {c d e : Collection} → CollectsOne s object standing c d → CollectsOne s object standing c e → d ≡ e
    Takes-one nothing nothing = refl
    Takes-one takes_field takes_field = refl
    Takes-one (within inner) (within inner') = Collects-one inner inner'
    Takes-one (spreads inner) (spreads inner') = Collects-one inner inner'

pub Selects-one : (s : Scope) (object : List ℕ) (xs : List Selection) (gs hs : List Group) → Selects s object xs gs → Selects s object xs hs → gs ≡ hs
Selects-one s object xs gs hs a b = ap (λ (c : Collection). c.groups) (Collects-one s object a.1 b.1)

module _ (s : Scope) where
  mutual
    pub Completes-one : {of : TypeRef} {xs : List Selection} {v : Json} {p : List Spot} {o o' : Option Json} {es es' : List ShapeError} →
        Completes s of xs v p o es → Completes s of xs v p o' es' → (o ≡ o') × (es ≡ es')
    Completes-one (by_rule {of} f) (by_rule f') = let h = Follows-one f f' in (ap (kept (is_required of)) h.0, h.1)

    pub Follows-one : {r : CompletionRule} {xs : List Selection} {p : List Spot} {w w' : Json} {es es' : List ShapeError} →
        CompletesByRule s r xs p w es → CompletesByRule s r xs p w' es' → (w ≡ w') × (es ≡ es')
    Follows-one null_stays null_stays = (refl, refl)
    Follows-one null_is_missing null_is_missing = (refl, refl)
    Follows-one is_wrong is_wrong = (refl, refl)
    Follows-one leaf_stays leaf_stays = (refl, refl)
    Follows-one (by_element e) (by_element e') = let h = Elements-one e e' in (ap list_or_null h.0, h.1)
    Follows-one (by_field {xs} {p} {object} {members} {groups} {o} {es} selects f) (by_field {groups = groups'} {o = o'} {es = es'} selects' f') =
        let same = Selects-one s object xs groups groups' selects selects' in
        let h = Fields-one f (subst (λ (gs : List Group). CompletesFields s object members p gs o' es') (sym same) f') in
        (ap object_or_null h.0, h.1)

    pub Elements-one : {t : TypeRef} {xs : List Selection} {p : List Spot} {i : ℕ} {vs : List Json} {o o' : Option (List Json)} {es es' : List ShapeError} →
        Elements s t xs p i vs o es → Elements s t xs p i vs o' es' → (o ≡ o') × (es ≡ es')
    Elements-one no_more no_more = (refl, refl)
    Elements-one (climbs c) (climbs c') = let h = Completes-one c c' in (refl, h.1)
    Elements-one (climbs c) (another c' e') = let h = Completes-one c c' in absurd (no_some h.0)
    Elements-one (another c e) (climbs c') = let h = Completes-one c c' in absurd (no_some (sym h.0))
    Elements-one (another c e) (another c' e') =
        let h = Completes-one c c' in
        let k = Elements-one e e' in
        (both_after (some_same h.0) k.0, both_append h.1 k.1)

    pub Fields-one : {object : List ℕ} {members : List (List ℕ × Json)} {p : List Spot} {gs : List Group} {o o' : Option (List (List ℕ × Json))} {es es' : List ShapeError} →
        CompletesFields s object members p gs o es → CompletesFields s object members p gs o' es' → (o ≡ o') × (es ≡ es')
    Fields-one all_done all_done = (refl, refl)
    Fields-one (its_type is f) (its_type is' f') = let k = Fields-one f f' in (ap (after _) k.0, k.1)
    Fields-one (its_type is f) (left_out is' f') = absurd (type_unknown is is')
    Fields-one (its_type is f) (field_climbs is' c') = absurd (type_typed is is')
    Fields-one (its_type is f) (field_stays is' c' f') = absurd (type_typed is is')
    Fields-one (left_out is f) (its_type is' f') = absurd (type_unknown is' is)
    Fields-one (left_out is f) (left_out is' f') = Fields-one f f'
    Fields-one (left_out is f) (field_climbs is' c') = absurd (unknown_typed is is')
    Fields-one (left_out is f) (field_stays is' c' f') = absurd (unknown_typed is is')
    Fields-one (field_climbs is c) (its_type is' f') = absurd (type_typed is' is)
    Fields-one (field_climbs is c) (left_out is' f') = absurd (unknown_typed is' is)
    Fields-one (field_climbs is c) (field_climbs is' c') = let h = Completes-one c (at_type (typed_same is is') c') in (refl, h.1)
    Fields-one (field_climbs is c) (field_stays is' c' f') = let h = Completes-one c (at_type (typed_same is is') c') in absurd (no_some h.0)
    Fields-one (field_stays is c f) (its_type is' f') = absurd (type_typed is' is)
    Fields-one (field_stays is c f) (left_out is' f') = absurd (unknown_typed is' is)
    Fields-one (field_stays is c f) (field_climbs is' c') = let h = Completes-one c (at_type (typed_same is is') c') in absurd (no_some (sym h.0))
    Fields-one (field_stays {object} {members} {p} {g} is c f) (field_stays is' c' f') =
        let h = Completes-one c (at_type (typed_same is is') c') in
        let k = Fields-one f f' in
        (both_after (ap (λ (w : Json). (g.first.key, w)) (some_same h.0)) k.0, both_append h.1 k.1)
