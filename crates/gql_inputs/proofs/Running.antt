-- Items and fields are coerced one after the other.
use Rattle.std.proofs.Common.{◌≡◌, ℕ, suc, ◌+◌, ◌<◌, ◌≤◌, List, [], ◌∷◌, ◌++◌, Some, None, length, get_or, drop, drop-cons, add-one, append_assoc, refl, sym, ap, ◌∙◌}
use Rattle.std.proofs.lemmas.List.{drop_all, append-nil}
use Rattle.json_value.specs.declared.tree.Json.{Json}
use Rattle.json_paths.specs.declared.path.Spot.{Spot}
use Rattle.json_paths.specs.declared.path.Spot.TheVariants as spot
use Rattle.gql_terms.specs.declared.documents.TypeRef.{TypeRef}
use Rattle.gql_types.specs.declared.definition.TypeDef.{TypeDef}
use Rattle.gql_types.specs.declared.definition.InputField.{InputField}
use Rattle.gql_inputs.specs.Coercing.{Coerced, fine, refused, after, Coerces, Items, no_more, stops, another, CoercesField, CoercesFields, no_field, field_stops, next_field}

abbrev pub ahead : {X : Type 0} → List X → Coerced (List X) → Coerced (List X)
ahead made (fine xs) = fine (made ++ xs)
ahead made (refused q) = refused q

ahead-none : {X : Type 0} (o : Coerced (List X)) → ahead [] o ≡ o
ahead-none (fine xs) = refl
ahead-none (refused q) = refl

ahead-after : {X : Type 0} (made : List X) (x : X) (o : Coerced (List X)) → ahead (made ++ (x ∷ [])) o ≡ ahead made (after x o)
ahead-after made x (fine xs) = ap (λ (ys : List _). fine ys) (append_assoc made (x ∷ []) xs)
ahead-after made x (refused q) = refl

pub record ItemsRun (schema : List TypeDef) (t : TypeRef) (p : List Spot) (all rest : List Json) (i : ℕ) (made : List Json) : Type 0 where
  pub goes : (o : Coerced (List Json)) → Items schema t p i rest o → Items schema t p 0 all (ahead made o)

module _ (schema : List TypeDef) (t : TypeRef) (p : List Spot) (all : List Json) where
  pub items_begin : ItemsRun schema t p all all 0 []
  items_begin = record { goes = λ o h. rw (ahead-none o) h }

  module _ (i : ℕ) (made : List Json) (run : ItemsRun schema t p all (drop i all) i made) where
    module _ (v : Json) (within : i < length all) (is : v ≡ get_or all i v) where
      into : (o : Coerced (List Json)) → Items schema t p i (v ∷ drop (suc i) all) o → Items schema t p 0 all (ahead made o)
      into = rw (drop-cons all i v within ∙ ap (λ (w : Json). w ∷ drop (suc i) all) (sym is)) at run.goes

      pub items_next : (w : Json) → Coerces schema t v (p ++ (spot.Index i ∷ [])) (fine w) → ItemsRun schema t p all (drop (i + 1) all) (i + 1) (made ++ (w ∷ []))
      items_next w c = rw add-one (record { goes = λ o h. rw (ahead-after made w o) (into (after w o) (another c h)) })

      pub items_stop : (q : List Spot) → Coerces schema t v (p ++ (spot.Index i ∷ [])) (refused q) → Items schema t p 0 all (refused q)
      items_stop q c = into (refused q) (stops c)

    pub items_end : length all ≤ i → Items schema t p 0 all (fine made)
    items_end past =
        let before : (o : Coerced (List Json)) → Items schema t p i [] o → Items schema t p 0 all (ahead made o) = rw (drop_all i all past) at run.goes in
        rw (append-nil made) at (before (fine []) no_more)

pub record FieldsRun (schema : List TypeDef) (members : List (List ℕ × Json)) (p : List Spot) (all rest : List InputField) (made : List (List ℕ × Json)) : Type 0 where
  pub goes : (o : Coerced (List (List ℕ × Json))) → CoercesFields schema members p rest o → CoercesFields schema members p all (ahead made o)

module _ (schema : List TypeDef) (members : List (List ℕ × Json)) (p : List Spot) (all : List InputField) where
  pub fields_begin : FieldsRun schema members p all all []
  fields_begin = record { goes = λ o h. rw (ahead-none o) h }

  module _ (i : ℕ) (made : List (List ℕ × Json)) (run : FieldsRun schema members p all (drop i all) made) where
    module _ (f : InputField) (within : i < length all) (is : f ≡ get_or all i f) where
      onto : (o : Coerced (List (List ℕ × Json))) → CoercesFields schema members p (f ∷ drop (suc i) all) o → CoercesFields schema members p all (ahead made o)
      onto = rw (drop-cons all i f within ∙ ap (λ (g : InputField). g ∷ drop (suc i) all) (sym is)) at run.goes

      pub fields_some : (w : Json) → CoercesField schema members p f (fine (Some w)) → FieldsRun schema members p all (drop (i + 1) all) (made ++ ((f.name, w) ∷ []))
      fields_some w c = rw add-one (record { goes = λ o h. rw (ahead-after made (f.name, w) o) (onto (after (f.name, w) o) (next_field c h)) })

      pub fields_none : CoercesField schema members p f (fine None) → FieldsRun schema members p all (drop (i + 1) all) made
      fields_none c = rw add-one (record { goes = λ o h. onto o (next_field c h) })

      pub fields_stop : (q : List Spot) → CoercesField schema members p f (refused q) → CoercesFields schema members p all (refused q)
      fields_stop q c = onto (refused q) (field_stops c)

    pub fields_end : length all ≤ i → CoercesFields schema members p all (fine made)
    fields_end past =
        let before : (o : Coerced (List (List ℕ × Json))) → CoercesFields schema members p [] o → CoercesFields schema members p all (ahead made o) = rw (drop_all i all past) at run.goes in
        rw (append-nil made) at (before (fine []) no_field)
