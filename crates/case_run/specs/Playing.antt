-- For proofs alone, no public clause: what one request of a case does.
use Rattle.std.specs.Prelude.{◌≡◌, ℕ, List, [], ◌∷◌, Option, Some, None}
use Rattle.std.specs.Io.KnownBytes.{Appends, Keeps}
use Rattle.flow_base.specs.Causes.{Rose, AppendsFront}
use Rattle.cache_seam.specs.Seen.{Seen}
use Rattle.line_base.specs.Told.{Script}
use Rattle.router_config.specs.declared.site.Site.{Site}
use Rattle.rehearsal.specs.Outside.{Output}
use Rattle.partial_fetch.specs.declared.answer.Answer.{Answer}
use Rattle.case_file.specs.declared.content.Timed.{Timed}
use Rattle.case_run.specs.declared.ending.Ending.{Ending}
use Rattle.case_run.specs.declared.ending.Ending.TheVariants as ending
use Rattle.case_run.specs.Runs.{CaseState, AnswersTimed, text_of}

-- there is one line
abbrev pub IsOneLine : List Script → Type 0
IsOneLine lines = (line : Script) × (lines ≡ line ∷ [])

abbrev pub script_in : List Script → Script
script_in [] = record { replies = []; log = [] }
script_in (line ∷ lines) = line

abbrev pub case_state : Seen → List Script → CaseState
case_state cache lines = record { cache = cache; line = script_in lines }

-- the answer to a request
module _ (site : Site) (timed : Timed) (old new : CaseState) (before after : Output) where
  abbrev pub PlaysOne : Option Ending → Type 0
  PlaysOne None = (a : Answer) × AnswersTimed site timed old new a × Appends before.written after.written (text_of old new a)
  PlaysOne (Some ending.SinkFailed) = Rose before.faults after.faults × ((a : Answer) × AnswersTimed site timed old new a × AppendsFront before.written after.written (text_of old new a))
  PlaysOne (Some ending.NoMemory) = Keeps before.written after.written
  PlaysOne (Some ending.Finished) = ⊥
  PlaysOne (Some ending.Refused) = ⊥
  PlaysOne (Some ending.SourceFailed) = ⊥

-- the text that is to be written for a request that was answered
abbrev pub Tells : Site → Timed → CaseState → CaseState → List ℕ → Type 0
Tells site timed old new text = (a : Answer) × AnswersTimed site timed old new a × (text ≡ text_of old new a)
