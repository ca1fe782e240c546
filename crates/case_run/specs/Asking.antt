-- What `ask` reads, writes and answers.
use Rattle.std.specs.Prelude.{◌≡◌, ◌≢◌, ◌⊎◌, ℕ, List, codes, Option, Ok, Err}
use Rattle.std.specs.Io.KnownBytes.{Keeps}
use Rattle.flow_base.specs.Causes.{Rose}
use Rattle.flow_base.specs.Taking.{TakesWhole, TakesLong}
use Rattle.rehearsal.specs.Outside.{Output, Outside}
use Rattle.rehearsal.specs.Runs.{Extent, Whole, Refused, Front}
use Rattle.rehearsal.specs.Rehearsing.{WritesTo, WritesCut}
use Rattle.case_file.specs.declared.content.Case.{Case}
use Rattle.case_file.specs.declared.fault.CaseFault.{CaseFault}
use Rattle.case_file.specs.declared.fault.CaseFault.TheVariants as fault
use Rattle.case_file.specs.Cases.{IsCase, content}
use Rattle.case_run.specs.declared.ending.Ending.{Ending}
use Rattle.case_run.specs.declared.ending.Ending.TheVariants as ending
use Rattle.case_run.specs.Texts.{refusal_text}
use Rattle.case_run.specs.Runs.{Runs, opening}

-- the most bytes of a case
abbrev pub most : ℕ
most = 1048576

-- this text refuses the whole case
abbrev pub RefusesCase : List ℕ → List ℕ → Extent → Type 0
RefusesCase text out extent = (out ≡ text) × (extent ≡ Refused)

-- what may be written for the input, and how far it goes
pub data MayWrite (left rest : Option (List ℕ)) (out : List ℕ) (extent : Extent) : Type 0 where
  -- it is too long
  too_long : (count : ℕ) → TakesLong left rest most count → RefusesCase (codes "case refused size\n") out extent → MayWrite left rest out extent
  -- taken to its end, it is no case: this is its first fault
  bad : (bytes : List ℕ) (f : CaseFault) → f ≢ fault.Memory → TakesWhole left rest most bytes → IsCase bytes (Err f) → RefusesCase (refusal_text f) out extent → MayWrite left rest out extent
  -- taken to its end, it is a case, and this may be written for its requests over a line that answers by its replies
  good : (bytes : List ℕ) (c : Case) → TakesWhole left rest most bytes → IsCase bytes (Ok (content c)) → Runs c.site (opening c.site.config.limits c.replies) c.requests out extent → MayWrite left rest out extent

-- the status of an ending
abbrev pub status_of : Ending → ℕ
status_of ending.Finished = 0
status_of ending.Refused = 5
status_of ending.SourceFailed = 6
status_of ending.SinkFailed = 7
status_of ending.NoMemory = 9

-- what was written where this may be written, and how it ended
module _ (May : List ℕ → Extent → Type 0) (old new : Output) where
  abbrev pub EndsWith : Ending → Type 0
  EndsWith ending.Finished = WritesTo May Whole old new
  EndsWith ending.Refused = WritesTo May Refused old new
  EndsWith ending.SinkFailed = Rose old.faults new.faults × WritesCut May old new
  EndsWith ending.NoMemory = WritesTo May Front old new
  EndsWith ending.SourceFailed = ⊥

-- what an ending says of what was read and written
module _ (old new : Outside) where
  abbrev pub Asks : Ending → Type 0
  -- each request was answered, and every line is written
  Asks ending.Finished = WritesTo (MayWrite old.input.left new.input.left) Whole old.output new.output
  -- the case is refused, and that is written
  Asks ending.Refused = WritesTo (MayWrite old.input.left new.input.left) Refused old.output new.output
  -- the source failed, and nothing is written
  Asks ending.SourceFailed = Rose old.input.faults new.input.faults × Keeps old.output.written new.output.written
  -- the sink failed, and a front is written
  Asks ending.SinkFailed = Rose old.output.faults new.output.faults × WritesCut (MayWrite old.input.left new.input.left) old.output new.output
  -- memory ran out: nothing is written, or the lines of some first requests, whole
  Asks ending.NoMemory = Keeps old.output.written new.output.written ⊎ WritesTo (MayWrite old.input.left new.input.left) Front old.output new.output

-- `ask` has one of five endings: the status is that of the ending, and what it says holds
abbrev pub IsAsked : Outside → ℕ → Outside → Type 0
IsAsked old status new = (e : Ending) × (status ≡ status_of e) × Asks old new e
