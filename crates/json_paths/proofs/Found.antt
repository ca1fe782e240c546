-- The places that the definition lists are those to which the path leads.
use Rattle.std.proofs.Common.{◌≡◌, ℕ, suc, zero, ◌+◌, List, [], ◌∷◌, inl, inr, Option, None, Some, refl, sym, ◌∙◌, ap, subst, arith}
use Rattle.std.specs.Prelude.{IsSome, slice_get, option_and_then, Contains, ◌↔◌}
use Rattle.json_value.specs.declared.tree.Json.{Json}
use Rattle.json_value.specs.Members.{member}
use Rattle.json_paths.specs.declared.path.Step.{Step}
use Rattle.json_paths.specs.declared.path.Step.TheVariants as step
use Rattle.json_paths.specs.declared.path.Spot.{Spot}
use Rattle.json_paths.specs.declared.path.Spot.TheVariants as spot
use Rattle.json_paths.specs.declared.path.Path.{Path}
use Rattle.json_paths.specs.declared.path.Place.{Place}
use Rattle.json_paths.specs.Parts.{at, elements}
use Rattle.json_paths.specs.Places.{below, places_under, in_part, in_each, spots_in, places_of, GoesAlong, IsPlaceOf}
use Rattle.json_paths.proofs.Among.{Among, Among-append_cases, Among-append_left, Among-append_right, Among-from_contains, Contains-from_among}

-- spots that begin with s and go on with one of these
record Begins (s : Spot) (ps : List (List Spot)) (p : List Spot) : Type 0 where
  rest : List Spot
  parts : p ≡ s ∷ rest
  among : Among rest ps

Among-below : (s : Spot) (ps : List (List Spot)) (p : List Spot) → Among p (below s ps) → Begins s ps p
Among-below s [] p has = absurd has
Among-below s (q ∷ ps) p (inl e) = record { rest = q; parts = sym e; among = inl refl }
Among-below s (q ∷ ps) p (inr later) = let r = Among-below s ps p later in record { rest = r.rest; parts = r.parts; among = inr r.among }

below-Among : (s : Spot) (ps : List (List Spot)) (rest : List Spot) → Among rest ps → Among (s ∷ rest) (below s ps)
below-Among s [] rest has = absurd has
below-Among s (q ∷ ps) rest (inl e) = inl (ap (λ (r : List Spot). s ∷ r) e)
below-Among s (q ∷ ps) rest (inr later) = inr (below-Among s ps rest later)

Among-under : (ps : List (List Spot)) (place : Place) → Among place (places_under [] ps) → Among place.spots ps
Among-under [] place has = absurd has
Among-under (q ∷ ps) place (inl e) = inl (ap (λ (p : Place). p.spots) e)
Among-under (q ∷ ps) place (inr later) = inr (Among-under ps place later)

under-Among : (ps : List (List Spot)) (place : Place) → Among place.spots ps → Among place (places_under [] ps)
under-Among [] place has = absurd has
under-Among (q ∷ ps) place (inl e) = inl (ap (λ (s : List Spot). let p : Place = record { spots = s } in p) e)
under-Among (q ∷ ps) place (inr later) = inr (under-Among ps place later)

-- spots in one part
record InPart (f : Json → List (List Spot)) (s : Spot) (o : Option Json) (p : List Spot) : Type 0 where
  inner : Json
  rest : List Spot
  is : o ≡ Some inner
  parts : p ≡ s ∷ rest
  among : Among rest (f inner)

Among-in_part : (f : Json → List (List Spot)) (s : Spot) (o : Option Json) (p : List Spot) → Among p (in_part f s o) → InPart f s o p
Among-in_part f s None p has = absurd has
Among-in_part f s (Some inner) p has = let b = Among-below s (f inner) p has in record { inner = inner; rest = b.rest; is = refl; parts = b.parts; among = b.among }

-- spots in one of the elements
record InElement (f : Json → List (List Spot)) (first : ℕ) (xs : List Json) (p : List Spot) : Type 0 where
  index : ℕ
  inner : Json
  rest : List Spot
  is : slice_get xs index ≡ Some inner
  parts : p ≡ spot.Index (first + index) ∷ rest
  among : Among rest (f inner)

Among-in_each : (f : Json → List (List Spot)) (first : ℕ) (xs : List Json) (p : List Spot) → Among p (in_each f first xs) → InElement f first xs p
Among-in_each f first [] p has = absurd has
Among-in_each f first (x ∷ xs) p has = elim (Among-append_cases (below (spot.Index first) (f x)) (in_each f (suc first) xs) p has) [
  | inl here ↦ (let b = Among-below (spot.Index first) (f x) p here in
      record { index = 0; inner = x; rest = b.rest; is = refl; parts = b.parts ∙ ap (λ n. spot.Index n ∷ b.rest) (omega arith); among = b.among })
  | inr later ↦ (let l = Among-in_each f (suc first) xs p later in
      record { index = suc l.index; inner = l.inner; rest = l.rest; is = l.is; parts = l.parts ∙ ap (λ n. spot.Index n ∷ l.rest) (omega arith); among = l.among })
]

in_each-Among : (f : Json → List (List Spot)) (first : ℕ) (xs : List Json) (index : ℕ) (inner : Json) (rest : List Spot) →
    slice_get xs index ≡ Some inner → Among rest (f inner) → Among (spot.Index (first + index) ∷ rest) (in_each f first xs)
in_each-Among f first [] index inner rest is among = cc
in_each-Among f first (x ∷ xs) zero inner rest is among =
    let same : x ≡ inner = cc in
    let here : Among rest (f x) = subst (λ (y : Json). Among rest (f y)) (sym same) among in
    let e : first + 0 ≡ first = omega arith in
    rw e (Among-append_left (below (spot.Index first) (f x)) (in_each f (suc first) xs) (spot.Index first ∷ rest) (below-Among (spot.Index first) (f x) rest here))
in_each-Among f first (x ∷ xs) (suc index) inner rest is among =
    let e : first + suc index ≡ suc first + index = omega arith in
    rw e (Among-append_right (below (spot.Index first) (f x)) (in_each f (suc first) xs) (spot.Index (suc first + index) ∷ rest)
    (in_each-Among f (suc first) xs index inner rest is among))

-- what is there one step down
record Inward (g : Json → Option Json) (o : Option Json) : Type 0 where
  inner : Json
  is : o ≡ Some inner
  onward : IsSome (g inner)

Inward-from : (g : Json → Option Json) (o : Option Json) → IsSome (option_and_then g o) → Inward g o
Inward-from g None there = cc
Inward-from g (Some inner) there = record { inner = inner; is = refl; onward = there }

onward : (ss : List Spot) (o : Option Json) (inner : Json) → o ≡ Some inner → IsSome (at inner ss) → IsSome (option_and_then (λ i. at i ss) o)
onward ss o inner is there = rw is there

-- the spots go as the steps do, and there is a part there
record Leads (v : Json) (steps : List Step) (spots : List Spot) : Type 0 where
  follows : GoesAlong steps spots
  is_there : IsSome (at v spots)

sound : (steps : List Step) (v : Json) (spots : List Spot) → Among spots (spots_in v steps) → Leads v steps spots
sound [] v spots (inl e) = subst (λ (s : List Spot). Leads v [] s) e (record { follows = tt; is_there = refl })
sound [] v spots (inr never) = absurd never
sound (step.Name name ∷ steps) v spots among =
    let p = Among-in_part (λ inner. spots_in inner steps) (spot.Name name) (member v name) spots among in
    let l = sound steps p.inner p.rest p.among in
    let there : IsSome (at v (spot.Name name ∷ p.rest)) = onward p.rest (member v name) p.inner p.is l.is_there in
    subst (λ (s : List Spot). Leads v (step.Name name ∷ steps) s) (sym p.parts) (record { follows = (refl, l.follows); is_there = there })
sound (step.Each ∷ steps) v spots among =
    let p = Among-in_each (λ inner. spots_in inner steps) 0 (elements v) spots among in
    let l = sound steps p.inner p.rest p.among in
    let there : IsSome (at v (spot.Index p.index ∷ p.rest)) = onward p.rest (slice_get (elements v) p.index) p.inner p.is l.is_there in
    let e : 0 + p.index ≡ p.index = omega arith in
    let parts : spots ≡ spot.Index p.index ∷ p.rest = p.parts ∙ ap (λ n. spot.Index n ∷ p.rest) e in
    subst (λ (s : List Spot). Leads v (step.Each ∷ steps) s) (sym parts) (record { follows = l.follows; is_there = there })

complete : (steps : List Step) (v : Json) (spots : List Spot) → GoesAlong steps spots → IsSome (at v spots) → Among spots (spots_in v steps)
complete [] v [] follows there = inl refl
complete [] v (s ∷ spots) follows there = absurd follows
complete (step.Name name ∷ steps) v [] follows there = absurd follows
complete (step.Name name ∷ steps) v (spot.Name other ∷ spots) follows there =
    let i = Inward-from (λ inner. at inner spots) (member v other) there in
    let among = complete steps i.inner spots follows.1 i.onward in
    let is : member v name ≡ Some i.inner = rw follows.0 i.is in
    let all : Among (spot.Name name ∷ spots) (spots_in v (step.Name name ∷ steps)) = rw is (below-Among (spot.Name name) (spots_in i.inner steps) spots among) in
    subst (λ (n : List ℕ). Among (spot.Name n ∷ spots) (spots_in v (step.Name name ∷ steps))) follows.0 all
complete (step.Name name ∷ steps) v (spot.Index index ∷ spots) follows there = absurd follows
complete (step.Each ∷ steps) v [] follows there = absurd follows
complete (step.Each ∷ steps) v (spot.Name other ∷ spots) follows there = absurd follows
complete (step.Each ∷ steps) v (spot.Index index ∷ spots) follows there =
    let i = Inward-from (λ inner. at inner spots) (slice_get (elements v) index) there in
    let among = complete steps i.inner spots follows i.onward in
    let e : 0 + index ≡ index = omega arith in
    subst (λ (n : ℕ). Among (spot.Index n ∷ spots) (spots_in v (step.Each ∷ steps))) e
    (in_each-Among (λ inner. spots_in inner steps) 0 (elements v) index i.inner spots i.is among)

pub exact : (v : Json) (path : Path) (place : Place) → Contains (places_of v path) place ↔ IsPlaceOf v path place
exact v path place = (
  λ has. (let l = sound path.steps v place.spots (Among-under (spots_in v path.steps) place (Among-from_contains (places_of v path) place has)) in record { follows = l.follows; is_there = l.is_there }),
  λ is. Contains-from_among (places_of v path) place (under-Among (spots_in v path.steps) place (complete path.steps v place.spots is.follows is.is_there)),
)

pub exact_of : (found : List Place) (v : Json) (path : Path) → found ≡ places_of v path →
    (place : Place) → Contains found place ↔ IsPlaceOf v path place
exact_of found v path is place = rw is (exact v path place)
