-- How each way through a request ends.
use Rattle.std.proofs.Common.{◌≡◌, ◌≢◌, ℕ, List, [], ◌∷◌, get_or, Option, refl, sym, subst}
use Rattle.std.specs.Prelude.{Result, Ok, Err, IfOk, OnErr, slice_set}
use Rattle.json_value.specs.declared.tree.Json.{Json}
use Rattle.line_base.specs.Lines.{Line}
use Rattle.cache_seam.specs.Seen.{Seen}
use Rattle.plan_book.specs.declared.book.Entry.{Entry}
use Rattle.plan_run.specs.declared.outcome.Outcome.{Outcome}
use Rattle.plan_run.specs.declared.subgraphs.Subgraph.{Subgraph}
use Rattle.plan_run.specs.Executions.{RunsPlan, DropsPlan}
use Rattle.router_config.specs.declared.site.Site.{Site}
use Rattle.router_config.specs.declared.config.Request.{Request}
use Rattle.answer_text.specs.declared.refusal.Refusal.{Refusal}
use Rattle.partial_fetch.specs.declared.answer.Answer.{Answer}
use Rattle.partial_fetch.specs.Accepting.{IsRefused, IsAccepted}
use Rattle.partial_fetch.specs.Headline.{OverFirst}
use Rattle.partial_fetch.specs.Answering.{Answers, RunsOut, IsRefusal, IsAnswer, subgraphs_of, refused, answered, unasked, dropped, unanswered}

module _ (site : Site) (request : Request) where
  -- nothing was done
  pub refused_so : {E : Type 0} (c : Seen) (l : Line) (log : Option (List ℕ)) (r : Refusal) (result : Result Answer E) → IsRefused site request r → IfOk result (λ (a : Answer). IsRefusal r a)
      → IfOk result (λ (a : Answer). Answers site request c c l l log log a)
  refused_so c l log r (Ok a) why is = refused r why is (record { cache = refl; line = refl; clock = refl })
  refused_so c l log r (Err e) why is = tt

  pub unasked_so : {E : Type 0} (c : Seen) (l : Line) (log : Option (List ℕ)) (result : Result Answer E) → OnErr result (RunsOut site request c c l l log log)
  unasked_so c l log (Ok a) = tt
  unasked_so c l log (Err e) = unasked (record { cache = refl; line = refl; clock = refl })

module _ (site : Site) (request : Request) (entry : Entry) (variables : Json) (accepted : IsAccepted site request entry variables) (subgraphs : List Subgraph) (id : Option (List ℕ)) (all : subgraphs ≡ subgraphs_of site.config.subs) (own : id ≡ request.id)
    (c d : Seen) (l m : Line) (before after : Option (List ℕ)) where
  runs_own : (value : Json) (o : Outcome) → RunsPlan entry.plan subgraphs variables id 0 c d l m before after value o → RunsPlan entry.plan (subgraphs_of site.config.subs) variables request.id 0 c d l m before after value o
  runs_own value o runs =
      subst (λ (s : List Subgraph). RunsPlan entry.plan s variables request.id 0 c d l m before after value o) all
      (subst (λ (i : Option (List ℕ)). RunsPlan entry.plan subgraphs variables i 0 c d l m before after value o) own runs)

  drops_own : DropsPlan entry.plan subgraphs variables id 0 c d l m before after → DropsPlan entry.plan (subgraphs_of site.config.subs) variables request.id 0 c d l m before after
  drops_own drops =
      subst (λ (s : List Subgraph). DropsPlan entry.plan s variables request.id 0 c d l m before after) all
      (subst (λ (i : Option (List ℕ)). DropsPlan entry.plan subgraphs variables i 0 c d l m before after) own drops)

  -- the plan was run
  pub answered_so : {E : Type 0} (value : Json) (o : Outcome) (result : Result Answer E) → RunsPlan entry.plan subgraphs variables id 0 c d l m before after value o → IfOk result (λ (a : Answer). IsAnswer site entry variables value o a)
      → IfOk result (λ (a : Answer). Answers site request c d l m before after a)
  answered_so value o (Ok a) runs is = answered entry variables value o accepted (runs_own value o runs) is
  answered_so value o (Err e) runs is = tt

  pub unanswered_so : {E : Type 0} (value : Json) (o : Outcome) (result : Result Answer E) → RunsPlan entry.plan subgraphs variables id 0 c d l m before after value o → OnErr result (RunsOut site request c d l m before after)
  unanswered_so value o (Ok a) runs = tt
  unanswered_so value o (Err e) runs = unanswered entry variables value o accepted (runs_own value o runs)

  -- the plan was dropped
  pub dropped_so : DropsPlan entry.plan subgraphs variables id 0 c d l m before after → RunsOut site request c d l m before after
  dropped_so drops = dropped entry variables accepted (drops_own drops)

-- what holds of each answer
pub all_ok : {E : Type 0} (P Q : Answer → Type 0) (result : Result Answer E) → ((a : Answer) → P a → Q a) → IfOk result P → IfOk result Q
all_ok P Q (Ok a) more h = more a h
all_ok P Q (Err e) more h = tt

-- the first of the lines was used, and no other
module _ {L : Type 0} (xs : List L) (x y : L) (some : xs ≢ []) (is : x ≡ get_or xs 0 x) where
  over_first : (P : L → L → Type 0) → P x y → OverFirst xs (slice_set xs 0 y) P
  over_first P h = over xs some is
    where
      over : (zs : List L) → zs ≢ [] → x ≡ get_or zs 0 x → OverFirst zs (slice_set zs 0 y) P
      over [] none at = absurd (none refl)
      over (z ∷ zs) none at = (subst (λ (l : L). P l y) at h, refl)

  pub over_ok : {E : Type 0} (P : L → L → Answer → Type 0) (result : Result Answer E) → IfOk result (λ (a : Answer). P x y a) → IfOk result (λ (a : Answer). OverFirst xs (slice_set xs 0 y) (λ l m. P l m a))
  over_ok P (Ok a) h = over_first (λ l m. P l m a) h
  over_ok P (Err e) h = tt

  pub over_err : {E : Type 0} (P : L → L → Type 0) (result : Result Answer E) → OnErr result (P x y) → OnErr result (OverFirst xs (slice_set xs 0 y) P)
  over_err P (Ok a) h = tt
  over_err P (Err e) h = over_first P h
