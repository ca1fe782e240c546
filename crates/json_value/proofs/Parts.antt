-- What recursion by parts gives at each kind of value.
use Rattle.std.proofs.Common.{◌≡◌, ℕ, Bool, List, [], ◌∷◌, refl, ap, ◌∙◌, sym, subst}
use Rattle.std.specs.Prelude.{map}
use Rattle.json_value.specs.declared.tree.Json.{Json}
use Rattle.json_value.specs.declared.tree.Json.TheVariants as json
use Rattle.json_value.specs.declared.tree.Json.{map-Json}
use Rattle.json_value.specs.declared.tree.Json.TheOpen.{Json-F}
use Rattle.json_value.specs.declared.tree.Json.TheViews.{roll-Json}
use Rattle.json_value.specs.declared.tree.Json.TheFolds.{fold-Json, fold-roll-Json, ind-Json}
use Rattle.json_value.specs.Recursion.{member_part, whole, beside, by_parts}

module _ {A : Type 0} (step : Json → Json-F (Json × A) → A) where
  abbrev IsItself : Json → Type 0
  IsItself v = (fold-Json (Json × A) (beside step) v).0 ≡ v

  abbrev made_of : Json → Json × A
  made_of v = fold-Json (Json × A) (beside step) v

  items_themselves : (ps : List ((v : Json) × IsItself v)) → map (λ p. p.0) (map made_of (map (λ e. e.0) ps)) ≡ map (λ e. e.0) ps
  items_themselves [] = refl
  items_themselves (p ∷ ps) = rw (p.1, items_themselves ps) refl

  abbrev named_first : List ℕ × ((v : Json) × IsItself v) → List ℕ × Json
  named_first m = (m.0, (m.1).0)

  abbrev named_made : List ℕ × Json → List ℕ × (Json × A)
  named_made m = (m.0, made_of m.1)

  members_themselves : (ms : List (List ℕ × ((v : Json) × IsItself v))) → map member_part (map named_made (map named_first ms)) ≡ map named_first ms
  members_themselves [] = refl
  members_themselves (m ∷ ms) = rw ((m.1).1, members_themselves ms) refl

  list_itself : (ps : List ((v : Json) × IsItself v)) → IsItself (roll-Json (Json-F.List (map (λ e. e.0) ps)))
  list_itself ps = ap (λ (p : Json × A). p.0) (fold-roll-Json (Json × A) (beside step) (Json-F.List (map (λ e. e.0) ps))) ∙ ap json.List (items_themselves ps) ∙ sym (json.rolls-List (map (λ e. e.0) ps))

  object_itself : (ms : List (List ℕ × ((v : Json) × IsItself v))) → IsItself (roll-Json (Json-F.Object (map named_first ms)))
  object_itself ms = ap (λ (p : Json × A). p.0) (fold-roll-Json (Json × A) (beside step) (Json-F.Object (map named_first ms))) ∙ ap json.Object (members_themselves ms) ∙ sym (json.rolls-Object (map named_first ms))

  at_layer : (y : Json-F ((v : Json) × IsItself v)) → IsItself (roll-Json (map-Json ((v : Json) × IsItself v) Json (λ e. e.0) y))
  at_layer Json-F.Null = ap (λ (p : Json × A). p.0) (fold-roll-Json (Json × A) (beside step) Json-F.Null) ∙ sym json.rolls-Null
  at_layer (Json-F.Bool b) = ap (λ (p : Json × A). p.0) (fold-roll-Json (Json × A) (beside step) (Json-F.Bool b)) ∙ sym (json.rolls-Bool b)
  at_layer (Json-F.Number t) = ap (λ (p : Json × A). p.0) (fold-roll-Json (Json × A) (beside step) (Json-F.Number t)) ∙ sym (json.rolls-Number t)
  at_layer (Json-F.Str t) = ap (λ (p : Json × A). p.0) (fold-roll-Json (Json × A) (beside step) (Json-F.Str t)) ∙ sym (json.rolls-Str t)
  at_layer (Json-F.List ps) = list_itself ps
  at_layer (Json-F.Object ms) = object_itself ms

  pub itself : (v : Json) → IsItself v
  itself = ind-Json IsItself (λ x y is. subst (λ z. IsItself (roll-Json z)) is (at_layer y))

  abbrev pub with_made : Json → Json × A
  with_made v = (v, by_parts step v)

  abbrev pub member_made : List ℕ × Json → List ℕ × (Json × A)
  member_made m = (m.0, with_made m.1)

  made_pair : (v : Json) → made_of v ≡ with_made v
  made_pair v = ap (λ (u : Json). (u, by_parts step v)) (itself v)

  items_made : (xs : List Json) → map made_of xs ≡ map with_made xs
  items_made [] = refl
  items_made (x ∷ xs) = rw (made_pair x, items_made xs) refl

  members_made : (ms : List (List ℕ × Json)) → map named_made ms ≡ map member_made ms
  members_made [] = refl
  members_made (m ∷ ms) = rw (made_pair m.1, members_made ms) refl

  items_first : (xs : List Json) → map (λ p. p.0) (map with_made xs) ≡ xs
  items_first [] = refl
  items_first (x ∷ xs) = rw (items_first xs) refl

  members_first : (ms : List (List ℕ × Json)) → map member_part (map member_made ms) ≡ ms
  members_first [] = refl
  members_first (m ∷ ms) = rw (members_first ms) refl

  second : (v : Json) (p : Json × A) → fold-Json (Json × A) (beside step) v ≡ p → by_parts step v ≡ p.1
  second v p e = ap (λ (p : Json × A). p.1) e

  pub by_parts-null : by_parts step json.Null ≡ step json.Null Json-F.Null
  by_parts-null = ap (by_parts step) (sym json.rolls-Null) ∙ second _ _ (fold-roll-Json (Json × A) (beside step) Json-F.Null)

  pub by_parts-bool : (b : Bool) → by_parts step (json.Bool b) ≡ step (json.Bool b) (Json-F.Bool b)
  by_parts-bool b = ap (by_parts step) (sym (json.rolls-Bool b)) ∙ second _ _ (fold-roll-Json (Json × A) (beside step) (Json-F.Bool b))

  pub by_parts-number : (t : List ℕ) → by_parts step (json.Number t) ≡ step (json.Number t) (Json-F.Number t)
  by_parts-number t = ap (by_parts step) (sym (json.rolls-Number t)) ∙ second _ _ (fold-roll-Json (Json × A) (beside step) (Json-F.Number t))

  pub by_parts-string : (t : List ℕ) → by_parts step (json.Str t) ≡ step (json.Str t) (Json-F.Str t)
  by_parts-string t = ap (by_parts step) (sym (json.rolls-Str t)) ∙ second _ _ (fold-roll-Json (Json × A) (beside step) (Json-F.Str t))

  pub by_parts-list : (xs : List Json) → by_parts step (json.List xs) ≡ step (json.List xs) (Json-F.List (map with_made xs))
  by_parts-list xs = ap (by_parts step) (sym (json.rolls-List xs)) ∙ second _ _ (fold-roll-Json (Json × A) (beside step) (Json-F.List xs))
      ∙ ap (λ (ps : List (Json × A)). step (whole (Json-F.List ps)) (Json-F.List ps)) (items_made xs)
      ∙ ap (λ (ys : List Json). step (json.List ys) (Json-F.List (map with_made xs))) (items_first xs)

  pub by_parts-object : (ms : List (List ℕ × Json)) → by_parts step (json.Object ms) ≡ step (json.Object ms) (Json-F.Object (map member_made ms))
  by_parts-object ms = ap (by_parts step) (sym (json.rolls-Object ms)) ∙ second _ _ (fold-roll-Json (Json × A) (beside step) (Json-F.Object ms))
      ∙ ap (λ (ps : List (List ℕ × (Json × A))). step (whole (Json-F.Object ps)) (Json-F.Object ps)) (members_made ms)
      ∙ ap (λ (ns : List (List ℕ × Json)). step (json.Object ns) (Json-F.Object (map member_made ms))) (members_first ms)
