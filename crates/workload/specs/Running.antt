-- What the workload writes, and its status.
use Rattle.std.specs.Prelude.{◌≡◌, ◌≢◌, ℕ, List, ◌++◌, codes, Ok, Err}
use Rattle.std.specs.Fmt.{decimal}
use Rattle.std.specs.Io.KnownBytes.{Keeps}
use Rattle.flow_base.specs.Causes.{Rose}
use Rattle.cache_book.specs.declared.answers.Tally as tally
use Rattle.cache_book.specs.Calls.{Tally, Tallied}
use Rattle.cache_seam.specs.Seen.{Seen}
use Rattle.cache_seam.specs.Turns.{Calls}
use Rattle.rehearsal.specs.Outside.{Output}
use Rattle.rehearsal.specs.Runs.{Extent, Whole, Refused}
use Rattle.rehearsal.specs.Rehearsing.{WritesTo, WritesCut}
use Rattle.case_file.specs.declared.content.Case.{Case}
use Rattle.case_file.specs.declared.fault.CaseFault.{CaseFault}
use Rattle.case_file.specs.declared.fault.CaseFault.TheVariants as fault
use Rattle.case_file.specs.Cases.{IsCase, content}
use Rattle.workload.specs.declared.counts.Counts.{Counts}
use Rattle.workload.specs.declared.finish.Finish.{Finish}
use Rattle.workload.specs.declared.finish.Finish.TheVariants as finish
use Rattle.workload.specs.Site.{site_text}
use Rattle.workload.specs.Steps.{Midway, StandsAfter}

-- what was made, what the looks found and missed, and what is left of the cache
abbrev pub made_text : ℕ → Counts → List ℕ
made_text steps c = codes "steps " ++ (decimal steps ++ (codes " requests " ++ (decimal c.requests ++ (codes " voids " ++ (decimal c.voids ++ codes " ")))))

abbrev pub looked_text : Counts → List ℕ
looked_text c = codes "hits " ++ (decimal c.hits ++ (codes " misses " ++ (decimal c.misses ++ codes " ")))

abbrev pub left_text : tally.Tally → List ℕ
left_text t = codes "epoch " ++ (decimal t.epoch ++ (codes " events " ++ (decimal t.events ++ codes "\n")))

-- steps N requests A voids V hits H misses M epoch E events L
abbrev pub summary_text : ℕ → Counts → tally.Tally → List ℕ
summary_text steps c t = made_text steps c ++ (looked_text c ++ left_text t)

-- this is the summary of the steps over the site, with the last tally
pub record IsSummary (case_ : Case) (steps : ℕ) (out : List ℕ) : Type 0 where
  pub last : Midway
  pub stands : StandsAfter case_.site steps last
  pub answer : tally.Tally
  pub after : Seen
  pub tallies : Calls last.cache Tally (Tallied answer) after
  pub text : out ≡ summary_text steps last.counts answer

-- what may be written for so many steps, and how far it goes
pub data MayBeWritten (steps : ℕ) (out : List ℕ) : Extent → Type 0 where
  -- the text of the site is no case
  bad : (f : CaseFault) → f ≢ fault.Memory → IsCase site_text (Err f) → out ≡ codes "case refused\n" → MayBeWritten steps out Refused
  -- it is a case, and this is the summary over it
  good : (c : Case) → IsCase site_text (Ok (content c)) → IsSummary c steps out → MayBeWritten steps out Whole

-- the status of each finish
abbrev pub status_after : Finish → ℕ
status_after finish.Done = 0
status_after finish.Refused = 5
status_after finish.SinkFailed = 7
status_after finish.NoMemory = 9

-- what a finish says of what was written
module _ (steps : ℕ) (old new : Output) where
  abbrev pub FinishesBy : Finish → Type 0
  -- the summary is written
  FinishesBy finish.Done = WritesTo (MayBeWritten steps) Whole old new
  -- the text of the site is no case, and that is written
  FinishesBy finish.Refused = WritesTo (MayBeWritten steps) Refused old new
  -- the sink failed, and a front is written
  FinishesBy finish.SinkFailed = Rose old.faults new.faults × WritesCut (MayBeWritten steps) old new
  -- memory ran out, and nothing is written
  FinishesBy finish.NoMemory = Keeps old.written new.written

-- the workload finishes in one of four ways: the status is that of the finish, and what it says holds
abbrev pub IsRun : ℕ → Output → ℕ → Output → Type 0
IsRun steps old status new = (f : Finish) × (status ≡ status_after f) × FinishesBy steps old new f
