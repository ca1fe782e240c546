-- Elements and fields are completed one after the other.
use Rattle.std.proofs.Common.{◌≡◌, ℕ, suc, ◌+◌, ◌<◌, ◌≤◌, List, [], ◌∷◌, ◌++◌, Option, Some, None, length, get_or, drop, drop-cons, add-one, append_assoc, refl, sym, ap, ◌∙◌}
use Rattle.std.proofs.lemmas.List.{drop_all, append-nil}
use Rattle.json_value.specs.declared.tree.Json.{Json}
use Rattle.json_value.specs.declared.tree.Json.TheVariants as j
use Rattle.json_value.specs.Members.{named}
use Rattle.json_paths.specs.declared.path.Spot.{Spot}
use Rattle.json_paths.specs.declared.path.Spot.TheVariants as spot
use Rattle.gql_terms.specs.declared.documents.TypeRef.{TypeRef}
use Rattle.gql_terms.specs.declared.documents.Selection.{Selection}
use Rattle.gql_shape.specs.declared.shaped.ShapeError.{ShapeError}
use Rattle.gql_shape.specs.Terms.{Scope, Group}
use Rattle.gql_shape.specs.Completing.{Completes, Elements, no_more, climbs, another, CompletesFields, all_done, its_type, left_out, field_climbs, field_stays, after, field_rule, type_name, unknown, typed, or_null, selections_of}

-- what was made before what is still to come, if that comes
abbrev pub ahead : {X : Type 0} → List X → Option (List X) → Option (List X)
ahead made None = None
ahead made (Some xs) = Some (made ++ xs)

ahead-none : {X : Type 0} (o : Option (List X)) → ahead [] o ≡ o
ahead-none None = refl
ahead-none (Some xs) = refl

ahead-after : {X : Type 0} (made : List X) (x : X) (o : Option (List X)) → ahead (made ++ (x ∷ [])) o ≡ ahead made (after x o)
ahead-after made x None = refl
ahead-after made x (Some xs) = ap (λ (ys : List _). Some ys) (append_assoc made (x ∷ []) xs)

-- ---- elements

-- what completes the rest completes the whole
pub record ItemsRun (s : Scope) (t : TypeRef) (xs : List Selection) (p : List Spot) (all rest : List Json) (i : ℕ) (made : List Json) (es : List ShapeError) : Type 0 where
  pub goes : (o : Option (List Json)) (fs : List ShapeError) → Elements s t xs p i rest o fs → Elements s t xs p 0 all (ahead made o) (es ++ fs)

module _ (s : Scope) (t : TypeRef) (xs : List Selection) (p : List Spot) (all : List Json) where
  pub items_begin : ItemsRun s t xs p all all 0 [] []
  items_begin = record { goes = λ o fs h. rw (ahead-none o) h }

  module _ (i : ℕ) (made : List Json) (es : List ShapeError) (run : ItemsRun s t xs p all (drop i all) i made es) where
    cut_at : (v : Json) → i < length all → v ≡ get_or all i v → drop i all ≡ v ∷ drop (suc i) all
    cut_at v within is = drop-cons all i v within ∙ ap (λ (w : Json). w ∷ drop (suc i) all) (sym is)

    pub items_next : (v w : Json) (fs : List ShapeError) → i < length all → v ≡ get_or all i v → Completes s t xs v (p ++ (spot.Index i ∷ [])) (Some w) fs →
        ItemsRun s t xs p all (drop (i + 1) all) (i + 1) (made ++ (w ∷ [])) (es ++ fs)
    items_next v w fs within is completes =
        let before : (o : Option (List Json)) (gs : List ShapeError) → Elements s t xs p i (v ∷ drop (suc i) all) o gs → Elements s t xs p 0 all (ahead made o) (es ++ gs) = rw (cut_at v within is) at run.goes in
        rw add-one (record { goes = λ o gs h. rw (ahead-after made w o, append_assoc es fs gs) (before (after w o) (fs ++ gs) (another completes h)) })

    pub items_climb : (v : Json) (fs : List ShapeError) → i < length all → v ≡ get_or all i v → Completes s t xs v (p ++ (spot.Index i ∷ [])) None fs → Elements s t xs p 0 all None (es ++ fs)
    items_climb v fs within is completes =
        let before : (o : Option (List Json)) (gs : List ShapeError) → Elements s t xs p i (v ∷ drop (suc i) all) o gs → Elements s t xs p 0 all (ahead made o) (es ++ gs) = rw (cut_at v within is) at run.goes in
        before None fs (climbs completes)

    pub items_end : length all ≤ i → Elements s t xs p 0 all (Some made) es
    items_end past =
        let before : (o : Option (List Json)) (gs : List ShapeError) → Elements s t xs p i [] o gs → Elements s t xs p 0 all (ahead made o) (es ++ gs) = rw (drop_all i all past) at run.goes in
        rw (append-nil made, append-nil es) at (before (Some []) [] no_more)

-- ---- fields

pub record FieldsRun (s : Scope) (object : List ℕ) (members : List (List ℕ × Json)) (p : List Spot) (all rest : List Group) (made : List (List ℕ × Json)) (es : List ShapeError) : Type 0 where
  pub goes : (o : Option (List (List ℕ × Json))) (fs : List ShapeError) → CompletesFields s object members p rest o fs → CompletesFields s object members p all (ahead made o) (es ++ fs)

module _ (s : Scope) (object : List ℕ) (members : List (List ℕ × Json)) (p : List Spot) (all : List Group) where
  pub fields_begin : FieldsRun s object members p all all [] []
  fields_begin = record { goes = λ o fs h. rw (ahead-none o) h }

  -- what is left of the groups stands at the end of a list
  module _ (up : List Group) (i : ℕ) (made : List (List ℕ × Json)) (es : List ShapeError) (run : FieldsRun s object members p all (drop i up) made es) (g : Group) (within : i < length up) (is : g ≡ get_or up i g) where
    step_in : (o : Option (List (List ℕ × Json))) (gs : List ShapeError) → CompletesFields s object members p (g ∷ drop (suc i) up) o gs → CompletesFields s object members p all (ahead made o) (es ++ gs)
    step_in = rw (drop-cons up i g within ∙ ap (λ (h : Group). h ∷ drop (suc i) up) (sym is)) at run.goes

    pub fields_type : field_rule s.schema object g.first.name ≡ type_name → FieldsRun s object members p all (drop (i + 1) up) (made ++ ((g.first.key, j.Str object) ∷ [])) es
    fields_type found = rw add-one (record { goes = λ o gs h. rw (ahead-after made (g.first.key, j.Str object) o) (step_in (after (g.first.key, j.Str object) o) gs (its_type found h)) })

    pub fields_left_out : field_rule s.schema object g.first.name ≡ unknown → FieldsRun s object members p all (drop (i + 1) up) made es
    fields_left_out found = rw add-one (record { goes = λ o gs h. step_in o gs (left_out found h) })

    pub fields_stays : (t : TypeRef) (w : Json) (fs : List ShapeError) → field_rule s.schema object g.first.name ≡ typed t →
        Completes s t (selections_of g) (or_null (named g.first.key members)) (p ++ (spot.Name g.first.key ∷ [])) (Some w) fs →
        FieldsRun s object members p all (drop (i + 1) up) (made ++ ((g.first.key, w) ∷ [])) (es ++ fs)
    fields_stays t w fs found completes = rw add-one (record {
      goes = λ o gs h.
          rw (ahead-after made (g.first.key, w) o, append_assoc es fs gs) (step_in (after (g.first.key, w) o) (fs ++ gs) (field_stays found completes h));
    })

    pub fields_climb : (t : TypeRef) (fs : List ShapeError) → field_rule s.schema object g.first.name ≡ typed t →
        Completes s t (selections_of g) (or_null (named g.first.key members)) (p ++ (spot.Name g.first.key ∷ [])) None fs → CompletesFields s object members p all None (es ++ fs)
    fields_climb t fs found completes = step_in None fs (field_climbs found completes)

  pub fields_end : (up : List Group) (i : ℕ) (made : List (List ℕ × Json)) (es : List ShapeError) → FieldsRun s object members p all (drop i up) made es → length up ≤ i → CompletesFields s object members p all (Some made) es
  fields_end up i made es run past =
      let before : (o : Option (List (List ℕ × Json))) (gs : List ShapeError) → CompletesFields s object members p [] o gs → CompletesFields s object members p all (ahead made o) (es ++ gs) = rw (drop_all i up past) at run.goes in
      rw (append-nil made, append-nil es) at (before (Some []) [] all_done)
