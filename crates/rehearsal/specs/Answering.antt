-- For proofs alone, no public clause: what one line of a script does.
use Rattle.std.specs.Prelude.{◌≡◌, ◌⊎◌, ℕ, ◌≤◌, List, Option, Some, None}
use Rattle.std.specs.FinMap as map
use Rattle.std.specs.Io.KnownBytes.{Appends, Keeps}
use Rattle.flow_base.specs.Causes.{Rose, AppendsFront}
use Rattle.cache_book.specs.declared.permit.Report.{Report}
use Rattle.script_lines.specs.Script.{words, IsQuiet}
use Rattle.script_lines.specs.Commands.{Says}
use Rattle.script_lines.specs.declared.commands.Command.{Command}
use Rattle.script_lines.specs.declared.commands.Command.TheVariants as command
use Rattle.script_lines.specs.declared.replies.Cause.{Cause}
use Rattle.script_lines.specs.declared.replies.Cause.TheVariants as cause
use Rattle.rehearsal.specs.declared.stage.Played.{Played}
use Rattle.rehearsal.specs.declared.stage.Played.TheVariants as played
use Rattle.rehearsal.specs.declared.stage.Ending.{Ending}
use Rattle.rehearsal.specs.declared.stage.Ending.TheVariants as ending
use Rattle.rehearsal.specs.Scene.{Scene}
use Rattle.rehearsal.specs.Outside.{Output}
use Rattle.rehearsal.specs.Replied.{refusal}
use Rattle.rehearsal.specs.Acts.{Does, DoesSettle, Lacks, Plays, RefusesLine}

-- the answer to a line
abbrev pub AnswersLine : Scene → List ℕ → Played → Scene → Type 0
AnswersLine old line played.Quiet new = IsQuiet line × (new ≡ old)
AnswersLine old line (played.Replied reply) new = (c : Command) × Says (words line) c × Does old c reply new
AnswersLine old line (played.Refused c) new = RefusesLine old line c

-- the answer to a command
abbrev pub Carries : Scene → Command → Played → Scene → Type 0
Carries old c played.Quiet new = ⊥
Carries old c (played.Replied reply) new = Does old c reply new
Carries old c (played.Refused cause) new = Lacks old c cause

-- the answer to a line that settles
abbrev pub CarriesSettle : Scene → ℕ → ℕ → Report → Played → Scene → Type 0
CarriesSettle old epoch ticket by played.Quiet new = ⊥
CarriesSettle old epoch ticket by (played.Replied reply) new = DoesSettle old epoch ticket by reply new
CarriesSettle old epoch ticket by (played.Refused cause.Ticket) new = map.get old.hand (epoch, ticket) ≡ None
CarriesSettle old epoch ticket by (played.Refused other) new = ⊥

-- the lifetime and the age that a command states are in their range
abbrev pub StatesSpans : Command → Type 0
StatesSpans (command.Settle epoch ticket lifetime age private tags value) = (lifetime ≤ 2147483648) × (age ≤ 2147483648)
StatesSpans other = Unit {0}

-- the text was written, or the ending says why it was not
abbrev pub PutsText : List ℕ → Output → Output → Option Ending → Type 0
PutsText text old new None = Appends old.written new.written text
PutsText text old new (Some ending.SinkFailed) = Rose old.faults new.faults × AppendsFront old.written new.written text
PutsText text old new (Some ending.NoMemory) = Keeps old.written new.written
PutsText text old new (Some other) = ⊥

-- what a line does to the scene and to what is written
module _ (old : Scene) (line : List ℕ) (number : ℕ) (new : Scene) (before after : Output) where
  abbrev pub PlaysLine : Option Ending → Type 0
  PlaysLine None = (text : List ℕ) × Plays old line text new × Appends before.written after.written text
  PlaysLine (Some ending.Finished) = ⊥
  PlaysLine (Some ending.Refused) = (c : Cause) × RefusesLine old line c × Appends before.written after.written (refusal number c)
  PlaysLine (Some ending.SourceFailed) = ⊥
  PlaysLine (Some ending.SinkFailed) = Rose before.faults after.faults
      × (((text : List ℕ) × (next : Scene) × Plays old line text next × AppendsFront before.written after.written text)
      ⊎ ((c : Cause) × RefusesLine old line c × AppendsFront before.written after.written (refusal number c)))
  PlaysLine (Some ending.NoMemory) = Keeps before.written after.written
