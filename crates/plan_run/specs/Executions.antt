-- A query plan that is run for one request, to its value.
use Rattle.std.specs.Prelude.{◌≡◌, ◌⊎◌, ℕ, List, [], ◌∷◌, Option}
use Rattle.json_value.specs.declared.tree.Json.{Json}
use Rattle.plan_tree.specs.declared.plan.Plan.{Plan}
use Rattle.plan_exec.specs.declared.tasks.Done as exec
use Rattle.plan_exec.specs.Exec as spec
use Rattle.plan_exec.specs.Tasks.{empty}
use Rattle.line_base.specs.Lines.{Line}
use Rattle.cache_seam.specs.Seen.{Seen}
use Rattle.plan_run.specs.declared.outcome.Outcome.{Outcome}
use Rattle.plan_run.specs.declared.subgraphs.Subgraph.{Subgraph}
use Rattle.plan_run.specs.Plans.{Wanted}
use Rattle.plan_run.specs.Outcomes.{Done}
use Rattle.plan_run.specs.Requests.{DoesRequest, DropsRequest}
use Rattle.plan_run.specs.Fetches.{next_of}

-- the pieces of these fetches, by their numbers in the plan
abbrev pub results_of : List Wanted → List Done → List exec.Done
results_of (w ∷ ws) (d ∷ ds) = record { fetch = w.fetch; pieces = d.fetched.pieces.items } ∷ results_of ws ds
results_of [] ds = []
results_of (w ∷ ws) [] = []

-- ONE REQUEST OVER A PLAN: always the first fetch that is ready is done, until none is left; the value is that of the plan's
-- sequential execution from the empty object over the pieces.
pub record RunsPlan (plan : Plan) (subgraphs : List Subgraph) (variables : Json) (id : Option (List ℕ)) (line : ℕ) (c d : Seen) (l m : Line) (before after : Option (List ℕ)) (value : Json) (o : Outcome) : Type 0 where
  pub given : List (List Json)
  pub does : DoesRequest (next_of plan subgraphs variables) [] given id line c d l m before after o
  pub value_is : value ≡ spec.exec plan.fetches (results_of does.tasks does.done) plan.root empty

-- nothing was done
pub record Untouched (c d : Seen) (l m : Line) (before after : Option (List ℕ)) : Type 0 where
  pub cache : d ≡ c
  pub line : m ≡ l
  pub clock : after ≡ before

-- where memory ran out: nothing was done, or the fetches were dropped
abbrev pub DropsPlan : Plan → List Subgraph → Json → Option (List ℕ) → ℕ → Seen → Seen → Line → Line → Option (List ℕ) → Option (List ℕ) → Type 0
DropsPlan plan subgraphs variables id line c d l m before after =
    Untouched c d l m before after ⊎ DropsRequest (next_of plan subgraphs variables) [] id line c d l m before after
