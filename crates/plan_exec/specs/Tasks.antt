-- What is asked for a ready fetch.
use Rattle.std.specs.Prelude.{◌≡◌, ℕ, Bool, true, false, List, [], ◌∷◌, Option, Some, None, map}
use Rattle.json_value.specs.declared.tree.Json.{Json}
use Rattle.json_value.specs.declared.tree.Json.TheVariants as json
use Rattle.json_paths.specs.declared.path.Path.{Path}
use Rattle.plan_tree.specs.declared.plan.Plan.{Plan}
use Rattle.plan_tree.specs.declared.plan.Fetch.{Fetch}
use Rattle.plan_exec.specs.declared.tasks.Done.{Done}
use Rattle.plan_exec.specs.declared.tasks.Task.{Task}
use Rattle.plan_exec.specs.declared.tasks.Asked.{Asked}
use Rattle.plan_exec.specs.declared.tasks.Asked.TheVariants as asked
use Rattle.representations.specs.Gather.{distinct_texts, used_by}
use Rattle.plan_exec.specs.Exec.{reps_for, exec}
use Rattle.plan_exec.specs.Ready.{Waiting, ready}

-- a root fetch asks as it is; an entity fetch asks for the distinct_texts representations at its path
abbrev pub asked_of : List Fetch → ℕ → Json → Option Path → Asked
asked_of fetches fetch v None = asked.Root
asked_of fetches fetch v (Some path) = asked.Entities (distinct_texts (reps_for fetches v path fetch)) (used_by (reps_for fetches v path fetch))

abbrev pub task_of : List Fetch → Waiting → Task
task_of fetches waiting = record { fetch = waiting.fetch; asked = asked_of fetches waiting.fetch waiting.start waiting.path }

-- the empty object, from which a plan starts
abbrev pub empty : Json
empty = json.Object []

-- a plan and the pieces given so far
pub record Progress : Type 0 where
  pub plan : Plan
  pub given : List Done

-- the ready fetches of the whole plan, and its value
abbrev pub waiting : Progress → List Waiting
waiting p = ready p.plan.fetches p.given p.plan.root empty

abbrev pub value : Progress → Json
value p = exec p.plan.fetches p.given p.plan.root empty

-- a root fetch whose pieces are not given
abbrev pub root_tasks : Option (List Json) → ℕ → List Task
root_tasks None fetch = record { fetch = fetch; asked = asked.Root } ∷ []
root_tasks (Some pieces) fetch = []

-- these tasks where they are asked for
abbrev pub asked_if : Bool → List Task → List Task
asked_if true tasks = tasks
asked_if false tasks = []

-- the value and the tasks that are kept are those of the plan over the pieces given
pub record IsKept (plan : Plan) (given : List Done) (whole : Json) (tasks : List Task) : Type 0 where
  pub whole_is : whole ≡ exec plan.fetches given plan.root empty
  pub tasks_are : tasks ≡ map (task_of plan.fetches) (ready plan.fetches given plan.root empty)
