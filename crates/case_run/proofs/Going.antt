-- A case goes on request by request.
use Rattle.std.proofs.Common.{◌≡◌, ◌⊎◌, inl, inr, ℕ, ◌+◌, ◌<◌, ◌≤◌, List, [], ◌∷◌, ◌++◌, length, get_or, take, drop, refl, sym, ap, ◌∙◌, subst, arith, append_assoc, append-nil, Option, Some, None}
use Rattle.std.specs.Io.KnownBytes.{Appends}
use Rattle.std.proofs.KnownBytes.{Appends-trans, Appends-kept}
use Rattle.std.proofs.lemmas.List.{drop_more}
use Rattle.std.proofs.Math.Seq.{take-append-add}
use Rattle.flow_base.specs.Causes.{Rose, AppendsFront}
use Rattle.router_config.specs.declared.site.Site.{Site}
use Rattle.rehearsal.specs.Outside.{Output}
use Rattle.rehearsal.specs.Runs.{Extent, Whole, Refused, Front}
use Rattle.partial_fetch.specs.declared.answer.Answer.{Answer}
use Rattle.case_file.specs.declared.content.Timed.{Timed}
use Rattle.case_run.specs.declared.ending.Ending.{Ending}
use Rattle.case_run.specs.declared.ending.Ending.TheVariants as ending
use Rattle.case_run.specs.Runs.{CaseState, AnswersTimed, text_of, Runs}
use Rattle.case_run.specs.Playing.{PlaysOne}
use Rattle.case_run.specs.Asking.{EndsWith}

pub timed_here : (ts : List Timed) (i : ℕ) (t : Timed) → i < length ts → t ≡ get_or ts i t → drop i ts ≡ t ∷ drop (i + 1) ts
timed_here ts i t lt is = drop_more ts i t lt ∙ ap (λ x. x ∷ drop (i + 1) ts) (sym is)

module _ (site : Site) where
  -- what may be written for the rest may be written after what is done
  abbrev pub Continues : CaseState → List Timed → List ℕ → CaseState → List Timed → Type 0
  Continues s timeds done t rest = (out : List ℕ) (extent : Extent) → Runs site t rest out extent → Runs site s timeds (done ++ out) extent

  pub continues_start : (s : CaseState) (timeds : List Timed) → Continues s timeds [] s timeds
  continues_start s timeds out extent runs = runs

  pub continues_more : (s : CaseState) (timeds : List Timed) (done : List ℕ) (t : CaseState) (timed : Timed) (rest : List Timed) (next : CaseState) (a : Answer)
      → Continues s timeds done t (timed ∷ rest) → AnswersTimed site timed t next a → Continues s timeds (done ++ text_of t next a) next rest
  continues_more s timeds done t timed rest next a h does out extent runs =
      subst (λ (l : List ℕ). Runs site s timeds l extent) (sym (append_assoc done (text_of t next a) out)) (h (text_of t next a ++ out) extent (inr (a, next, out, does, runs, refl)))

  pub front_of : (s : CaseState) (timeds : List Timed) → Runs site s timeds [] Front
  front_of s [] = refl
  front_of s (timed ∷ timeds) = inl refl

  continues_front : (s : CaseState) (timeds : List Timed) (done : List ℕ) (t : CaseState) (rest : List Timed) → Continues s timeds done t rest → Runs site s timeds done Front
  continues_front s timeds done t rest h = subst (λ (l : List ℕ). Runs site s timeds l Front) (append-nil done) (h [] Front (front_of t rest))

  pub continues_whole : (s : CaseState) (timeds : List Timed) (done : List ℕ) (t : CaseState) → Continues s timeds done t [] → Runs site s timeds done Whole
  continues_whole s timeds done t h = subst (λ (l : List ℕ). Runs site s timeds l Whole) (append-nil done) (h [] Whole refl)

  rose_later : (a b c : ℕ) → a ≤ b → Rose b c → Rose a c
  rose_later a b c h k = omega (arith, h, k)

  front_later : (a b c : Option (List ℕ)) (done bs : List ℕ) → Appends a b done → AppendsFront b c bs → AppendsFront a c (done ++ bs)
  front_later a b c done bs h k = (length done + k.0, subst (λ (l : List ℕ). Appends a c l) (sym (take-append-add done bs k.0)) (Appends-trans a b c done (take k.0 bs) h k.1))

  -- where a request ends the case, what was written is that of a run
  pub request_ended : (s : CaseState) (timeds : List Timed) (done : List ℕ) (t : CaseState) (timed : Timed) (rest : List Timed) (next : CaseState) (a b c : Output) (e : Ending)
      → Continues s timeds done t (timed ∷ rest) → Appends a.written b.written done → a.faults ≤ b.faults → PlaysOne site timed t next b c (Some e) → EndsWith (Runs site s timeds) a c e
  request_ended s timeds done t timed rest next a b c ending.Finished goes put later plays = absurd plays
  request_ended s timeds done t timed rest next a b c ending.SourceFailed goes put later plays = absurd plays
  request_ended s timeds done t timed rest next a b c ending.Refused goes put later plays = absurd plays
  request_ended s timeds done t timed rest next a b c ending.NoMemory goes put later plays =
      (done, continues_front s timeds done t (timed ∷ rest) goes, Appends-kept a.written b.written c.written done put plays)
  request_ended s timeds done t timed rest next a b c ending.SinkFailed goes put later (rose, cut) =
      (rose_later a.faults b.faults c.faults later rose, (done ++ text_of t next cut.0, Front, continues_front s timeds (done ++ text_of t next cut.0) next rest (continues_more s timeds done t timed rest next cut.0 goes cut.1), front_later a.written b.written c.written done (text_of t next cut.0) put cut.2))
