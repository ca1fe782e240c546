-- What a rehearsal reads, writes and answers.
use Rattle.std.specs.Prelude.{◌≡◌, ◌⊎◌, ℕ, List, codes, IsUtf8, Option}
use Rattle.std.specs.Io.KnownBytes.{Appends, Keeps}
use Rattle.cache_terms.specs.declared.events.Limits.{Limits}
use Rattle.flow_base.specs.Causes.{Rose, AppendsFront}
use Rattle.flow_base.specs.Taking.{TakesWhole, TakesLong}
use Rattle.script_lines.specs.Script.{lines}
use Rattle.rehearsal.specs.declared.stage.Ending.{Ending}
use Rattle.rehearsal.specs.declared.stage.Ending.TheVariants as ending
use Rattle.rehearsal.specs.Outside.{Output, Outside}
use Rattle.rehearsal.specs.Scene.{opening}
use Rattle.rehearsal.specs.Runs.{Extent, Whole, Refused, Front, Runs}

-- the most bytes of a script
abbrev pub most : ℕ
most = 1048576

-- the input, taken to its end, is a script, and this may be written for its lines
pub record IsPlayed (limits : Limits) (left rest : Option (List ℕ)) (out : List ℕ) (extent : Extent) : Type 0 where
  pub script : List ℕ
  pub taken : TakesWhole left rest most script
  pub utf8 : IsUtf8 script
  pub runs : Runs 1 (opening limits) (lines script) out extent

-- the line that refuses a whole script
abbrev pub IsRefusedScript : List ℕ → Extent → Type 0
IsRefusedScript out extent = (out ≡ codes "script refused\n") × (extent ≡ Refused)

-- the input is no script: it is too long, or it was taken to its end and is not UTF-8
pub record IsNoScript (left rest : Option (List ℕ)) (out : List ℕ) (extent : Extent) : Type 0 where
  pub bad : ((count : ℕ) × TakesLong left rest most count) ⊎ ((bytes : List ℕ) × TakesWhole left rest most bytes × (IsUtf8 bytes → ⊥))
  pub says : IsRefusedScript out extent

-- what may be written for the input, and how far it goes
abbrev pub MayWrite : Limits → Option (List ℕ) → Option (List ℕ) → List ℕ → Extent → Type 0
MayWrite limits left rest out extent = IsPlayed limits left rest out extent ⊎ IsNoScript left rest out extent

-- all that may be written to this extent was written
abbrev pub WritesTo : (List ℕ → Extent → Type 0) → Extent → Output → Output → Type 0
WritesTo May extent old new = (out : List ℕ) × May out extent × Appends old.written new.written out

-- a front of what may be written was written
abbrev pub WritesCut : (List ℕ → Extent → Type 0) → Output → Output → Type 0
WritesCut May old new = (out : List ℕ) × (extent : Extent) × May out extent × AppendsFront old.written new.written out

-- what was written where this may be written, and how it ended
module _ (May : List ℕ → Extent → Type 0) (old new : Output) where
  abbrev pub EndsWith : Ending → Type 0
  EndsWith ending.Finished = WritesTo May Whole old new
  EndsWith ending.Refused = WritesTo May Refused old new
  EndsWith ending.SinkFailed = Rose old.faults new.faults × WritesCut May old new
  EndsWith ending.NoMemory = WritesTo May Front old new
  EndsWith ending.SourceFailed = ⊥

-- the status of an ending
abbrev pub status_of : Ending → ℕ
status_of ending.Finished = 0
status_of ending.Refused = 5
status_of ending.SourceFailed = 6
status_of ending.SinkFailed = 7
status_of ending.NoMemory = 9

-- what an ending says of what was read and written
module _ (limits : Limits) (old new : Outside) where
  abbrev pub Rehearses : Ending → Type 0
  -- the script was done to its end, and every reply is written
  Rehearses ending.Finished = WritesTo (MayWrite limits old.input.left new.input.left) Whole old.output new.output
  -- the script or a line of it is refused, and all up to that text is written
  Rehearses ending.Refused = WritesTo (MayWrite limits old.input.left new.input.left) Refused old.output new.output
  -- the source failed, and nothing is written
  Rehearses ending.SourceFailed = Rose old.input.faults new.input.faults × Keeps old.output.written new.output.written
  -- the sink failed, and a front is written
  Rehearses ending.SinkFailed = Rose old.output.faults new.output.faults × WritesCut (MayWrite limits old.input.left new.input.left) old.output new.output
  -- memory ran out: nothing is written, or the replies of some first lines, whole
  Rehearses ending.NoMemory = Keeps old.output.written new.output.written ⊎ WritesTo (MayWrite limits old.input.left new.input.left) Front old.output new.output

-- a rehearsal has one of five endings: the status is that of the ending, and what it says holds
abbrev pub IsRehearsed : Limits → Outside → ℕ → Outside → Type 0
IsRehearsed limits old status new = (e : Ending) × (status ≡ status_of e) × Rehearses limits old new e
