-- How the places that the walk appends add up.
use Rattle.std.proofs.Common.{◌≡◌, ℕ, suc, ◌+◌, ◌<◌, ◌≤◌, List, [], ◌∷◌, ◌++◌, Option, Some, refl, ap, ◌∙◌, sym, append_assoc, length, drop, get_or, add-one, drop-cons}
use Rattle.std.proofs.lemmas.List.{append-nil, drop_all}
use Rattle.json_value.specs.declared.tree.Json.{Json}
use Rattle.json_paths.specs.declared.path.Spot.{Spot}
use Rattle.json_paths.specs.declared.path.Spot.TheVariants as spot
use Rattle.json_paths.specs.declared.path.Place.{Place}
use Rattle.json_paths.specs.Parts.{elements}
use Rattle.json_paths.specs.Places.{below, places_under, in_part, in_each}

pub under-below : (spots : List Spot) (s : Spot) (ps : List (List Spot)) →
    places_under spots (below s ps) ≡ places_under (spots ++ (s ∷ [])) ps
under-below spots s [] = refl
under-below spots s (p ∷ ps) = rw (append_assoc spots (s ∷ []) p, under-below spots s ps)

pub under-append : (spots : List Spot) (ps qs : List (List Spot)) →
    places_under spots (ps ++ qs) ≡ places_under spots ps ++ places_under spots qs
under-append spots [] qs = refl
under-append spots (p ∷ ps) qs = rw (under-append spots ps qs)

-- the places in one member
pub walked_member : (found made : List Place) (spots there : List Spot) (s : Spot) (f : Json → List (List Spot)) (o : Option Json) (inner : Json) →
    o ≡ Some inner → there ≡ spots ++ (s ∷ []) → made ≡ found ++ places_under there (f inner) → made ≡ found ++ places_under spots (in_part f s o)
walked_member found made spots there s f o inner is stands walked = rw (is, under-below spots s (f inner), ← stands) walked

-- the places in one more element
pub walked_element : (found made whole : List Place) (spots there : List Spot) (f : Json → List (List Spot)) (items : List Json) (i : ℕ) (x : Json) →
    i < length items → x ≡ get_or items i x → there ≡ spots ++ (spot.Index i ∷ []) → made ≡ found ++ places_under there (f x) →
    found ++ places_under spots (in_each f i (drop i items)) ≡ whole →
    made ++ places_under spots (in_each f (i + 1) (drop (i + 1) items)) ≡ whole
walked_element found made whole spots there f items i x within is stands walked before =
    let cut : drop i items ≡ x ∷ drop (i + 1) items = rw add-one (drop-cons items i x within ∙ ap (λ (y : Json). y ∷ drop (suc i) items) (sym is)) in
    let split : places_under spots (in_each f i (drop i items)) ≡ places_under there (f x) ++ places_under spots (in_each f (i + 1) (drop (i + 1) items)) =
    rw (cut, add-one, under-append, under-below, stands) in
    rw (walked, append_assoc, ← split) before

-- the places in all elements
pub walked_all : (found made : List Place) (spots : List Spot) (f : Json → List (List Spot)) (items : List Json) (i : ℕ) (v : Json) →
    elements v ≡ items → length items ≤ i →
    made ++ places_under spots (in_each f i (drop i items)) ≡ found ++ places_under spots (in_each f 0 items) →
    made ≡ found ++ places_under spots (in_each f 0 (elements v))
walked_all found made spots f items i v is all before =
    let ended : made ++ [] ≡ found ++ places_under spots (in_each f 0 items) = rw (drop_all i items all) at before in
    rw is (sym (append-nil made) ∙ ended)
