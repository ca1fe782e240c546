-- What the requests of a case write.
use Rattle.std.specs.Prelude.{◌≡◌, ◌⊎◌, ℕ, List, [], ◌∷◌, ◌++◌, drop, length, true, Option, Some}
use Rattle.cache_terms.specs.declared.events.Limits.{Limits}
use Rattle.cache_model.specs.State.{opened}
use Rattle.cache_seam.specs.Seen.{Seen}
use Rattle.cache_seam.specs.Lonely.{seen_alone}
use Rattle.line_base.specs.declared.script.Scripted.{Scripted}
use Rattle.line_base.specs.Lines.{Entry}
use Rattle.line_base.specs.Told.{Script, script_line}
use Rattle.router_config.specs.declared.site.Site.{Site}
use Rattle.rehearsal.specs.Runs.{Extent, Whole, Refused, Front}
use Rattle.partial_fetch.specs.declared.answer.Answer.{Answer}
use Rattle.partial_fetch.specs.Answering.{Answers}
use Rattle.partial_fetch.specs.Causes.{HasCauses}
use Rattle.partial_fetch.specs.Headline.{KeepsPromise}
use Rattle.case_file.specs.declared.content.Timed.{Timed}
use Rattle.still_clock.specs.Clocks.{IsStill}
use Rattle.case_run.specs.Texts.{request_text}

-- what stands between two requests: what is seen of the cache, and of the line the replies that are unused, by which it
-- answers, and the calls that it has told
pub record CaseState : Type 0 where
  pub cache : Seen
  pub line : Script

-- at first the cache is empty, in epoch 0, the line answers by these replies, and no call was made
abbrev pub opening : Limits → List Scripted → CaseState
opening limits replies = record { cache = seen_alone (opened limits 0) true; line = record { replies = replies; log = [] } }

-- one request, at its moment: it is answered over the cache and the line, whose answers are the replies that it had, its
-- answer is as promised, and each error has its cause
pub record AnswersTimed (site : Site) (timed : Timed) (old new : CaseState) (a : Answer) : Type 0 where
  pub after : Option (List ℕ)
  pub answers : Answers site timed.request old.cache new.cache (script_line old.line) (script_line new.line) (Some (timed.moment ∷ [])) after a
  pub still : IsStill timed.moment after
  pub promise : KeepsPromise site timed.request new.cache (script_line old.line) (script_line new.line) a
  pub causes : HasCauses (script_line old.line) (script_line new.line) a

-- the calls of the request are those that the line has told since
abbrev pub sent : CaseState → CaseState → List Entry
sent old new = drop (length old.line.log) new.line.log

abbrev pub text_of : CaseState → CaseState → Answer → List ℕ
text_of old new a = request_text (sent old new) a

-- what may be written from these requests on, where it ends before the first of them
abbrev pub Ends : List Timed → List ℕ → Extent → Type 0
Ends timeds out Front = out ≡ []
Ends [] out Whole = out ≡ []
Ends (timed ∷ timeds) out Whole = ⊥
Ends timeds out Refused = ⊥

-- what may be written for these requests, one after the other
abbrev pub Runs : Site → CaseState → List Timed → List ℕ → Extent → Type 0
Runs site s [] out extent = Ends [] out extent
Runs site s (timed ∷ timeds) out extent =
    Ends (timed ∷ timeds) out extent
    ⊎ ((a : Answer) × (next : CaseState) × (rest : List ℕ) × AnswersTimed site timed s next a × Runs site next timeds rest extent × (out ≡ text_of s next a ++ rest))
