-- The fetches of a query plan, one at a time: always the first that is ready.
use Rattle.std.specs.Prelude.{◌≡◌, ℕ, Bool, List, [], ◌∷◌, map, slice_get, option_and_then, Option, Some, None}
use Rattle.json_value.specs.declared.tree.Json.{Json}
use Rattle.json_paths.specs.declared.path.Place.{Place}
use Rattle.plan_tree.specs.declared.plan.Plan.{Plan}
use Rattle.plan_tree.specs.declared.plan.Fetch.{Fetch}
use Rattle.plan_tree.specs.Lawful.{IsLawful}
use Rattle.plan_exec.specs.declared.tasks.Asked.{Asked}
use Rattle.plan_exec.specs.declared.tasks.Asked.TheVariants as kind
use Rattle.plan_exec.specs.declared.tasks.Task as exec
use Rattle.plan_exec.specs.declared.tasks.Done.{Done}
use Rattle.plan_exec.specs.Ready.{Waiting}
use Rattle.plan_exec.specs.Tasks.{Progress, waiting, task_of}
use Rattle.plan_exec.specs.Order.{giving_more}
use Rattle.fetch_asks.specs.Asks.{ask_of, keys_of}
use Rattle.plan_run.specs.declared.subgraphs.Subgraph.{Subgraph}
use Rattle.plan_run.specs.Plans.{Wanted}
use Rattle.plan_run.specs.Subgraphs.{found_by, AreFrom}

-- what contracts see of a plan that is run for a request: the plan, the subgraphs of the site, the coerced variables, and
-- the pieces given so far
pub record Execution : Type 0 where
  pub plan : Plan
  pub subgraphs : List Subgraph
  pub variables : Json
  pub given : List (List Json)

-- the places that use each piece; the data of a root fetch is used as a whole
abbrev pub places_of : Asked → List (List Place)
places_of kind.Root = []
places_of (kind.Entities distinct used_by) = used_by

abbrev pub wanted_by : Json → exec.Task → Fetch → ℕ × Bool → Wanted
wanted_by variables task fetch found = record {
  fetch = task.fetch;
  ask = ask_of found.0 found.1 fetch task.asked variables;
  keys = keys_of fetch task.asked variables;
  places = places_of task.asked;
}

-- what a ready fetch of the plan asks of its subgraph
abbrev pub wanted_at : List Fetch → List Subgraph → Json → exec.Task → Option Wanted
wanted_at fetches subgraphs variables task =
    option_and_then (λ (fetch : Fetch). option_and_then (λ (found : ℕ × Bool). Some (wanted_by variables task fetch found)) (found_by subgraphs fetch.sub))
    (slice_get fetches task.fetch)

abbrev pub first_wanted : List Fetch → List Subgraph → Json → List exec.Task → Option Wanted
first_wanted fetches subgraphs variables [] = None
first_wanted fetches subgraphs variables (task ∷ tasks) = wanted_at fetches subgraphs variables task

abbrev pub first_done : List Waiting → List Json → List Done
first_done [] pieces = []
first_done (w ∷ ws) pieces = record { fetch = w.fetch; pieces = pieces } ∷ []

-- the progress when these pieces were given, each time for the first fetch that was ready
unfoldable pub progress_from : Progress → List (List Json) → Progress
progress_from p [] = p
progress_from p (pieces ∷ later) = progress_from (giving_more p (first_done (waiting p) pieces)) later

abbrev pub progress_of : Plan → List (List Json) → Progress
progress_of plan given = progress_from (record { plan = plan; given = [] }) given

-- WHAT COMES NEXT: the first fetch that is ready
unfoldable pub next_of : Plan → List Subgraph → Json → List (List Json) → Option Wanted
next_of plan subgraphs variables given =
    first_wanted plan.fetches subgraphs variables (map (task_of plan.fetches) (waiting (progress_of plan given)))

abbrev pub given_pieces : Done → List Json
given_pieces done = done.pieces

-- what a machine was given is what it makes of the pieces
abbrev pub StandsAt : Plan → Progress → Type 0
StandsAt plan p = p ≡ progress_of plan (map given_pieces p.given)

-- what is kept of a plan that is run
pub record IsRunSound (plan : Plan) (subgraphs : List Subgraph) (machine : Progress) : Type 0 where
  pub at : StandsAt plan machine
  pub lawful : IsLawful plan
  pub known : AreFrom subgraphs plan.fetches
