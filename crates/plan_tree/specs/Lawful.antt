-- What holds of every plan that was read from a plan file.
use Rattle.std.specs.Prelude.{◌≡◌, ℕ, suc, ◌≤◌, max, Bool, true, false, not, ◌&&◌, IsTrue, List, [], ◌∷◌, Option, Some, None, length, map, slice_get, codes}
use Rattle.std.specs.List.{list_any, list_all}
use Rattle.std.specs.Str.{bytes_eq}
use Rattle.json_paths.specs.declared.needs.Need.{Need}
use Rattle.json_paths.specs.declared.needs.Need.TheOpen.{Need-F}
use Rattle.json_paths.specs.declared.needs.Need.TheFolds.{fold-Need}
use Rattle.json_paths.specs.declared.needs.Requires.{Requires}
use Rattle.plan_tree.specs.declared.plan.Node.{Node}
use Rattle.plan_tree.specs.declared.plan.Node.TheOpen.{Node-F}
use Rattle.plan_tree.specs.declared.plan.Node.TheFolds.{fold-Node}
use Rattle.plan_tree.specs.declared.plan.Fetch.{Fetch}
use Rattle.plan_tree.specs.declared.plan.Plan.{Plan}
use Rattle.plan_tree.specs.Numbers.{numbers, numbers_from}

abbrev pub deepest : List ℕ → ℕ
deepest [] = 0
deepest (n ∷ ns) = max n (deepest ns)

abbrev pub depth_step : Node-F ℕ → ℕ
depth_step (Node-F.Fetch fetch) = 1
depth_step (Node-F.Flatten path fetch) = 2
depth_step (Node-F.Sequence children) = suc (deepest children)
depth_step (Node-F.Parallel children) = suc (deepest children)

-- how many nodes stand in one another; the fetch of a Flatten is one deeper than it
unfoldable pub depth : Node → ℕ
depth = fold-Node ℕ depth_step

abbrev pub is_some_of : {X : Type 0} → List X → Bool
is_some_of [] = false
is_some_of (x ∷ xs) = true

abbrev pub all_true : List Bool → Bool
all_true [] = true
all_true (b ∷ bs) = b && all_true bs

-- a root fetch has no needs
abbrev pub without_needs : Option Requires → Bool
without_needs None = true
without_needs (Some needs) = false

abbrev pub is_root : Option Fetch → Bool
is_root None = false
is_root (Some fetch) = without_needs fetch.needs

-- an entity fetch has needs, and is a query
abbrev pub is_entity : Option Fetch → Bool
is_entity None = false
is_entity (Some fetch) = not (without_needs fetch.needs) && not fetch.mutation

abbrev pub fits_step : List Fetch → Node-F Bool → Bool
fits_step fetches (Node-F.Fetch fetch) = is_root (slice_get fetches fetch)
fits_step fetches (Node-F.Flatten path fetch) = is_some_of path.steps && is_entity (slice_get fetches fetch)
fits_step fetches (Node-F.Sequence children) = is_some_of children && all_true children
fits_step fetches (Node-F.Parallel children) = is_some_of children && all_true children

-- each fetch stands where its kind may stand, a path has a step, and a Sequence or Parallel has a child
unfoldable pub is_well_placed : List Fetch → Node → Bool
is_well_placed fetches node = fold-Node Bool (fits_step fetches) node

abbrev pub differ : List (List ℕ) → Bool
differ [] = true
differ (name ∷ names) = not (list_any (bytes_eq name) names) && differ names

-- a name of a need and whether what is needed of it is well formed
abbrev pub Formed : Type 0
Formed = List ℕ × Bool

-- distinct names, none of which is `__typename`
abbrev pub are_names : List (List ℕ) → Bool
are_names names = differ names && not (list_any (bytes_eq (codes "__typename")) names)

abbrev pub name_of : Formed → List ℕ
name_of formed = formed.0

abbrev pub is_formed : Formed → Bool
is_formed formed = formed.1

abbrev pub formed_step : Need-F Formed → Formed
formed_step need = (need.name, are_names (map name_of need.fields) && all_true (map is_formed need.fields))

unfoldable pub formed : Need → Formed
formed = fold-Need Formed formed_step

abbrev pub needs_formed : Option Requires → Bool
needs_formed None = true
needs_formed (Some needs) = is_some_of needs.fields && are_names (map name_of (map formed needs.fields)) && all_true (map is_formed (map formed needs.fields))

-- needs well formed, and distinct variables, none of which is `representations`
abbrev pub fetch_formed : Fetch → Bool
fetch_formed fetch = needs_formed fetch.needs && differ fetch.variables && not (list_any (bytes_eq (codes "representations")) fetch.variables)

pub record IsLawful (plan : Plan) : Type 0 where
  -- fetches are numbered in the order in which the plan's text has them
  pub numbered : numbers plan.root ≡ numbers_from (length plan.fetches) 0
  pub few : length plan.fetches ≤ 64
  pub flat : depth plan.root ≤ 16
  pub fit : IsTrue (is_well_placed plan.fetches plan.root)
  pub well_formed : IsTrue (all_true (map fetch_formed plan.fetches))
