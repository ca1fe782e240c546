-- A round that is taken leaves fewer fetches.
use Rattle.std.proofs.Common.{◌≡◌, ℕ, ◌<◌, Bool, true, false, List, [], ◌∷◌, ◌++◌, Option, Some, None, refl, ap, ◌∙◌, sym, subst, eq-eqb, inl, inr}
use Rattle.std.specs.Prelude.{◌==◌, map, length}
use Rattle.json_value.specs.declared.tree.Json.{Json}
use Rattle.plan_tree.specs.declared.plan.Plan.{Plan}
use Rattle.plan_exec.specs.declared.tasks.Done.{Done}
use Rattle.plan_exec.specs.Exec.{pieces_of}
use Rattle.plan_exec.specs.Ready.{Waiting}
use Rattle.plan_tree.specs.declared.plan.Fetch.{Fetch}
use Rattle.plan_exec.specs.declared.tasks.Task.{Task}
use Rattle.plan_exec.specs.Tasks.{Progress, waiting, empty, task_of}
use Rattle.plan_exec.specs.Giving.{Among, AnswersTask, CanTake, count_left}
use Rattle.plan_exec.proofs.Staying.{extends-append}
use Rattle.plan_exec.proofs.Fewer.{falls, ready_lacks}

pub found_last : (given : List Done) (done : Done) (results : List Done) → pieces_of given done.fetch ≡ None → pieces_of (given ++ (done ∷ results)) done.fetch ≡ Some done.pieces
found_last [] done results lacks = rw (eq-eqb done.fetch done.fetch refl) refl
found_last (first ∷ given) done results lacks = by_fetch (first.fetch == done.fetch) refl (found_last given done results)
  where
    by_fetch : (b : Bool) → (first.fetch == done.fetch) ≡ b → (pieces_of given done.fetch ≡ None → pieces_of (given ++ (done ∷ results)) done.fetch ≡ Some done.pieces) → pieces_of (first ∷ (given ++ (done ∷ results))) done.fetch ≡ Some done.pieces
    by_fetch true is rest = let here : pieces_of (first ∷ given) done.fetch ≡ Some first.pieces = rw is refl in cc
    by_fetch false is rest = let here : pieces_of (first ∷ given) done.fetch ≡ pieces_of given done.fetch = rw is refl in rw is (rest (sym here ∙ lacks))

-- a task is that of a ready fetch
pub record Asked (fetches : List Fetch) (ws : List Waiting) (task : Task) : Type 0 where
  pub one : Waiting
  pub is_ready : Among one ws
  pub is_its : one.fetch ≡ task.fetch

pub asked : (fetches : List Fetch) (ws : List Waiting) (task : Task) → Among task (map (task_of fetches) ws) → Asked fetches ws task
asked fetches [] task among = absurd among
asked fetches (w ∷ ws) task (inl e) = record { one = w; is_ready = inl refl; is_its = ap (λ (t : Task). t.fetch) e }
asked fetches (w ∷ ws) task (inr later) = let h = asked fetches ws task later in record { one = h.one; is_ready = inr h.is_ready; is_its = h.is_its }

pub fewer : (plan : Plan) (given results : List Done) → CanTake (record { plan = plan; given = given }) results → count_left (given ++ results) plan.root < count_left given plan.root
fewer plan given [] take = absurd (take.some refl)
fewer plan given (done ∷ results) take =
    let answers = take.answers.0 in
    let h = asked plan.fetches (waiting (record { plan = plan; given = given })) answers.task answers.is_asked in
    let its : h.one.fetch ≡ done.fetch = h.is_its ∙ answers.is_its in
    let lacks : pieces_of given done.fetch ≡ None = ap (pieces_of given) (sym its) ∙ ready_lacks plan.fetches given plan.root empty h.one h.is_ready in
    let found : pieces_of (given ++ (done ∷ results)) h.one.fetch ≡ Some done.pieces = ap (pieces_of (given ++ (done ∷ results))) its ∙ found_last given done results lacks in
    (falls plan.fetches given (given ++ (done ∷ results)) (extends-append given (done ∷ results)) plan.root).below empty h.one done.pieces h.is_ready found
