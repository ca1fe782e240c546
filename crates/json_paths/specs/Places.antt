-- The places that a path leads to.
use Rattle.std.specs.Prelude.{◌≡◌, IsSome, ℕ, suc, List, [], ◌∷◌, ◌++◌, Option, Some, None}
use Rattle.json_value.specs.declared.tree.Json.{Json}
use Rattle.json_value.specs.Members.{member}
use Rattle.json_paths.specs.declared.path.Step.{Step}
use Rattle.json_paths.specs.declared.path.Step.TheVariants as step
use Rattle.json_paths.specs.declared.path.Spot.{Spot}
use Rattle.json_paths.specs.declared.path.Spot.TheVariants as spot
use Rattle.json_paths.specs.declared.path.Path.{Path}
use Rattle.json_paths.specs.declared.path.Place.{Place}
use Rattle.json_paths.specs.Parts.{at, elements}

-- one spot before each of these
abbrev pub below : Spot → List (List Spot) → List (List Spot)
below s [] = []
below s (p ∷ ps) = (s ∷ p) ∷ below s ps

abbrev pub in_part : (Json → List (List Spot)) → Spot → Option Json → List (List Spot)
in_part f s None = []
in_part f s (Some inner) = below s (f inner)

-- those in each element, of which the first has this index
abbrev pub in_each : (Json → List (List Spot)) → ℕ → List Json → List (List Spot)
in_each f index [] = []
in_each f index (x ∷ xs) = below (spot.Index index) (f x) ++ in_each f (suc index) xs

-- by the path: no step leads to the value itself, a name into the member, Each into every element
abbrev pub spots_in : Json → List Step → List (List Spot)
spots_in v [] = [] ∷ []
spots_in v (step.Name name ∷ steps) = in_part (λ inner. spots_in inner steps) (spot.Name name) (member v name)
spots_in v (step.Each ∷ steps) = in_each (λ inner. spots_in inner steps) 0 (elements v)

-- the places that begin with these spots
abbrev pub places_under : List Spot → List (List Spot) → List Place
places_under spots [] = []
places_under spots (p ∷ ps) = record { spots = spots ++ p } ∷ places_under spots ps

abbrev pub places_of : Json → Path → List Place
places_of v path = places_under [] (spots_in v path.steps)

-- the spots go step by step as the path does
abbrev pub GoesAlong : List Step → List Spot → Type 0
GoesAlong [] [] = Unit {0}
GoesAlong (step.Name name ∷ steps) (spot.Name other ∷ spots) = (name ≡ other) × GoesAlong steps spots
GoesAlong (step.Each ∷ steps) (spot.Index index ∷ spots) = GoesAlong steps spots
GoesAlong _ _ = ⊥

-- the place goes as the path does, and there is a part of the value there
pub record IsPlaceOf (v : Json) (path : Path) (place : Place) : Type 0 where
  pub follows : GoesAlong path.steps place.spots
  pub is_there : IsSome (at v place.spots)
