-- What a run of the program reads, writes and answers.
use Rattle.std.specs.Prelude.{◌≡◌, ◌⊎◌, ℕ, List, codes, Option, Some, None}
use Rattle.std.specs.Io.KnownBytes.{Appends, Keeps}
use Rattle.flow_base.specs.Causes.{Rose, AppendsFront}
use Rattle.fedrouter.specs.declared.words.Command.{Command}
use Rattle.fedrouter.specs.declared.words.Command.TheVariants as command
use Rattle.fedrouter.specs.Words.{IsCommandOf}
use Rattle.rehearsal.specs.Outside.{Output, Outside}
use Rattle.rehearsal.specs.Rehearsing.{IsRehearsed}
use Rattle.case_run.specs.Asking as case
use Rattle.workload.specs.Running.{IsRun}

-- the text was written whole, and this is the status; or the sink failed, a front of it was written, and the status is 7
abbrev pub Prints : List ℕ → ℕ → Output → ℕ → Output → Type 0
Prints text status old answer new = ((answer ≡ status) × Appends old.written new.written text)
    ⊎ ((answer ≡ 7) × Rose old.faults new.faults × AppendsFront old.written new.written text)

-- only a text is written: the source is not touched
pub record OnlyPrints (text : List ℕ) (status : ℕ) (old : Outside) (answer : ℕ) (new : Outside) : Type 0 where
  pub left : Keeps old.input.left new.input.left
  pub faults : new.input.faults ≡ old.input.faults
  pub prints : Prints text status old.output answer new.output

-- the workload is run: the source is not touched
pub record OnlyRuns (steps : ℕ) (old : Outside) (answer : ℕ) (new : Outside) : Type 0 where
  pub left : Keeps old.input.left new.input.left
  pub faults : new.input.faults ≡ old.input.faults
  pub runs : IsRun steps old.output answer new.output

-- what --help and --version write
abbrev pub usage : List ℕ
usage = codes "usage: fedrouter rehearse EVENTS BYTES\nor: fedrouter ask\nor: fedrouter workload STEPS\nor: fedrouter --help\nor: fedrouter --version\n\nrehearse reads a script of cache steps from standard input, runs it on a cache with room for\nEVENTS events (8 to 65536) and BYTES bytes of pieces (16 to 268435456), and writes one line\nfor each step.\nask reads a case from standard input, a schema with plans, requests and replies, runs the\nrequests one after the other over one cache, and writes what is sent and what is answered.\nworkload makes STEPS (1 to 100000) requests and invalidations that a generator of numbers draws,\nover one cache, and writes one line of what was made, found and missed.\n\nfor example:\nfedrouter rehearse 64 4096 < examples/late_tag.txt\nfedrouter ask < examples/shop.json\nfedrouter workload 100\n"

abbrev pub version : List ℕ
version = codes "fedrouter 0.1.0\n"

-- what the command does, and its status
abbrev pub Performs : Option Command → Outside → ℕ → Outside → Type 0
Performs (Some (command.Rehearse limits)) old status new = IsRehearsed limits old status new
Performs (Some command.Ask) old status new = case.IsAsked old status new
Performs (Some (command.Workload steps)) old status new = OnlyRuns steps old status new
Performs (Some command.Help) old status new = OnlyPrints usage 0 old status new
Performs (Some command.Version) old status new = OnlyPrints version 0 old status new
Performs None old status new = OnlyPrints (codes "words refused\n") 2 old status new

-- what the program does for these words, and its status
abbrev pub Obeys : List (List ℕ) → Outside → ℕ → Outside → Type 0
Obeys words old status new = (asked : Option Command) × IsCommandOf words asked × Performs asked old status new

-- so it does for the words that are given, and where there are none for want of memory, the status is 9 and nothing is
-- read or written
abbrev pub ObeysGiven : Option (List (List ℕ)) → Outside → ℕ → Outside → Type 0
ObeysGiven (Some words) old status new = Obeys words old status new
ObeysGiven None old status new = (status ≡ 9) × (new ≡ old)
