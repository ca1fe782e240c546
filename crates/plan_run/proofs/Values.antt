-- The value of a plan over the pieces of a request.
use Rattle.std.proofs.Common.{◌≡◌, ℕ, List, [], ◌∷◌, ◌++◌, Option, ap, sym, ◌∙◌, subst, append_assoc}
use Rattle.std.proofs.lemmas.List.{append-nil}
use Rattle.json_value.specs.declared.tree.Json.{Json}
use Rattle.plan_tree.specs.declared.plan.Plan.{Plan}
use Rattle.plan_exec.specs.declared.tasks.Done as exec
use Rattle.plan_exec.specs.Exec as spec
use Rattle.plan_exec.specs.Tasks.{Progress, value, empty}
use Rattle.line_base.specs.Lines.{Line}
use Rattle.cache_seam.specs.Seen.{Seen}
use Rattle.plan_run.specs.declared.outcome.Outcome.{Outcome}
use Rattle.plan_run.specs.declared.subgraphs.Subgraph.{Subgraph}
use Rattle.plan_run.specs.Plans.{Wanted}
use Rattle.plan_run.specs.Outcomes.{Done, pieces_of}
use Rattle.plan_run.specs.Requests.{IsOrder, DoesRequest}
use Rattle.plan_run.specs.Fetches.{Execution, progress_of, next_of}
use Rattle.plan_run.specs.Executions.{results_of, RunsPlan}
use Rattle.plan_run.proofs.Firsts.{progress-none, progress-plan, next-done}

-- the machine was given the pieces of the fetches in order
pub given-results : (plan : Plan) (subgraphs : List Subgraph) (variables : Json) (given : List (List Json)) (tasks : List Wanted) (done : List Done) → IsOrder (next_of plan subgraphs variables) given tasks done →
    (progress_of plan (given ++ pieces_of done)).given ≡ (progress_of plan given).given ++ results_of tasks done
given-results plan subgraphs variables given [] [] h =
    ap (λ (g : List (List Json)). (progress_of plan g).given) (append-nil given) ∙ sym (append-nil (progress_of plan given).given)
given-results plan subgraphs variables given (w ∷ ws) (d ∷ ds) h =
    let pieces : List Json = d.fetched.pieces.items in
    ap (λ (g : List (List Json)). (progress_of plan g).given) (sym (append_assoc given (pieces ∷ []) (pieces_of ds)))
    ∙ given-results plan subgraphs variables (given ++ (pieces ∷ [])) ws ds h.1
    ∙ ap (λ (p : Progress). p.given ++ results_of ws ds) (next-done plan subgraphs variables given w pieces h.0)
    ∙ append_assoc (progress_of plan given).given (record { fetch = w.fetch; pieces = pieces } ∷ []) (results_of ws ds)
given-results plan subgraphs variables given [] (d ∷ ds) h = absurd h
given-results plan subgraphs variables given (w ∷ ws) [] h = absurd h

pub value-results : (plan : Plan) (subgraphs : List Subgraph) (variables : Json) (now : List (List Json)) (tasks : List Wanted) (done : List Done) → IsOrder (next_of plan subgraphs variables) [] tasks done →
    now ≡ pieces_of done → value (progress_of plan now) ≡ spec.exec plan.fetches (results_of tasks done) plan.root empty
value-results plan subgraphs variables now tasks done order is =
    let start : Progress = record { plan = plan; given = [] } in
    let given : (progress_of plan now).given ≡ results_of tasks done =
    ap (λ (g : List (List Json)). (progress_of plan g).given) is
    ∙ given-results plan subgraphs variables [] tasks done order ∙ ap (λ (p : Progress). p.given ++ results_of tasks done) (progress-none start) in
    ap (λ (p : Plan). spec.exec p.fetches (progress_of plan now).given p.root empty) (progress-plan start now)
    ∙ ap (λ (g : List exec.Done). spec.exec plan.fetches g plan.root empty) given

-- a plan that was run to its end
pub runs_plan : (plan : Plan) (subgraphs : List Subgraph) (variables : Json) (id : Option (List ℕ)) (line : ℕ) (c d : Seen) (l m : Line) (before after : Option (List ℕ)) (old new : Execution) (v : Json) (o : Outcome) →
    old ≡ record { plan = plan; subgraphs = subgraphs; variables = variables; given = [] } →
    DoesRequest (next_of old.plan old.subgraphs old.variables) old.given new.given id line c d l m before after o →
    value (progress_of new.plan new.given) ≡ value (progress_of old.plan new.given) → v ≡ value (progress_of new.plan new.given) →
    RunsPlan plan subgraphs variables id line c d l m before after v o
runs_plan plan subgraphs variables id line c d l m before after old new v o start does same is =
    let here : DoesRequest (next_of plan subgraphs variables) [] new.given id line c d l m before after o =
    subst (λ (f : Execution). DoesRequest (next_of f.plan f.subgraphs f.variables) f.given new.given id line c d l m before after o) start does in
    record {
      given = new.given;
      does = here;
      value_is = is ∙ same ∙ ap (λ (f : Execution). value (progress_of f.plan new.given)) start
          ∙ value-results plan subgraphs variables new.given here.tasks here.done here.order here.given_is;
    }
