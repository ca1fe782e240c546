-- An answer is as promised.
use Rattle.std.proofs.Common.{◌≡◌, ℕ, List, [], ◌∷◌, Option, Some, refl, ap, sym, ◌∙◌, subst, arith}
use Rattle.std.specs.Prelude.{map}
use Rattle.json_value.specs.declared.tree.Json.{Json}
use Rattle.json_print.specs.Print.{print}
use Rattle.cache_book.specs.Permits.{Pinned}
use Rattle.line_base.specs.Lines.{Line, calls_after}
use Rattle.cache_seam.specs.Seen.{Seen}
use Rattle.plan_run.specs.declared.outcome.Outcome.{Outcome}
use Rattle.plan_run.specs.declared.outcome.PieceError.{PieceError}
use Rattle.plan_run.specs.Plans.{Wanted}
use Rattle.plan_run.specs.Outcomes.{Done}
use Rattle.plan_run.specs.Requests.{DoesRequest, AreRun}
use Rattle.plan_run.specs.Executions.{RunsPlan, results_of}
use Rattle.plan_run.specs.Fetches.{next_of}
use Rattle.plan_run.specs.Justified.{AllFound}
use Rattle.plan_exec.specs.Exec.{exec}
use Rattle.plan_exec.specs.Tasks.{empty}
use Rattle.gql_shape.specs.Shaping.{IsShaping}
use Rattle.plan_book.specs.declared.book.Entry.{Entry}
use Rattle.router_config.specs.declared.site.Site.{Site}
use Rattle.router_config.specs.declared.config.Request.{Request}
use Rattle.answer_text.specs.declared.refusal.Refusal.{Refusal}
use Rattle.answer_text.specs.Refusals.{status_of}
use Rattle.answer_text.specs.Bodies.{answer_value}
use Rattle.partial_fetch.specs.declared.answer.Answer.{Answer}
use Rattle.partial_fetch.specs.Accepting.{IsRefused, IsAccepted, bad_document, unknown, misnamed, bad_variables}
use Rattle.partial_fetch.specs.Answering.{Answers, IsRefusal, IsAnswer, refused, answered, told_error, subgraphs_of}
use Rattle.partial_fetch.specs.Headline.{AllFetched, IsPromised, KeepsPromise}
use Rattle.partial_fetch.proofs.Bringing.{fetch_fetched}

runs_fetched : (id : Option (List ℕ)) (line : ℕ) (pass : Pinned) (calls : ℕ) (tasks : List Wanted) (done : List Done) → AreRun id line pass calls tasks done → AllFetched done
runs_fetched id line pass calls [] [] h = tt
runs_fetched id line pass calls (w ∷ ws) (d ∷ ds) h = (fetch_fetched w.ask w.keys id line calls pass d.now d.turns d.entries d.fetched h.0, runs_fetched id line pass (calls_after calls d.entries) ws ds h.1)
runs_fetched id line pass calls [] (d ∷ ds) h = absurd h
runs_fetched id line pass calls (w ∷ ws) [] h = absurd h

refused_so : (site : Site) (request : Request) (r : Refusal) → IsRefused site request r → status_of r ≡ 400
refused_so site request _ (bad_document fault not_memory none why) = refl
refused_so site request _ (unknown d is none) = refl
refused_so site request _ (misnamed entry operation has only other) = refl
refused_so site request _ (bad_variables entry operation has fault not_memory why) = refl

-- so no refusal has status 200
not_ok : (status : ℕ) → status ≡ 400 → status ≡ 200 → ⊥
not_ok status is ok = omega (arith, is, ok)

pub answer_promised : ((next : List (List Json) → Option Wanted) (given now : List (List Json)) (id : Option (List ℕ)) (number : ℕ) (old new : Seen) (l m : Line) (before after : Option (List ℕ)) (o : Outcome)
    (h : DoesRequest next given now id number old new l m before after o) → AllFound new.journal h.pass id h.tasks h.done)
    → (site : Site) (request : Request) (old new : Seen) (l m : Line) (before after : Option (List ℕ)) (a : Answer) → Answers site request old new l m before after a → KeepsPromise site request new l m a
answer_promised found site request old new l m before after a (refused r why is untouched) ok = absurd (not_ok a.status (is.status ∙ refused_so site request r why) ok)
answer_promised found site request old new l m before after a (answered entry variables value o accepted runs is) ok = record {
  entry = entry;
  variables = variables;
  accepted = accepted;
  pass = runs.does.pass;
  tasks = runs.does.tasks;
  done = runs.does.done;
  order = runs.does.order;
  ended = ap (next_of entry.plan (subgraphs_of site.config.subs) variables) (sym runs.does.given_is) ∙ runs.does.ended;
  calls = runs.does.gains;
  recorded = found (next_of entry.plan (subgraphs_of site.config.subs) variables) [] runs.given request.id 0 old new l m before after o runs.does;
  fetched = runs_fetched request.id 0 runs.does.pass l.calls runs.does.tasks runs.does.done runs.does.runs;
  receipts = is.receipts ∙ runs.does.receipts;
  shaped = is.shaped;
  is_shaping = subst (λ (v : Json). IsShaping site.schema entry.document variables v is.shaped) runs.value_is is.is_shaping;
  body = is.body ∙ ap (λ (es : List PieceError). print (answer_value (map (told_error site.config.subs) es) is.shaped)) (sym is.errors);
}
