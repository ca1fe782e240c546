-- What the words of the command line ask for.
use Rattle.std.specs.Prelude.{◌≡◌, ◌≢◌, ℕ, ◌≤◌, List, [], codes, drop, map, Option, Some, None, Result, Ok, Err, String, string_bytes}
use Rattle.std.specs.Vec.Iter.{into_iter_items}
use Rattle.std.specs.declared.vec.IntoIter.{IntoIter}
use Rattle.std.specs.IoError.{error_kind}
use Rattle.std.specs.declared.io.Error.{Error}
use Rattle.std.specs.declared.io.ErrorKind.TheVariants as kind
use Rattle.script_lines.specs.Script.{IsNumber}
use Rattle.script_lines.specs.Commands.{HasForm, word}
use Rattle.fedrouter.specs.declared.words.Command.{Command}
use Rattle.fedrouter.specs.declared.words.Command.TheVariants as command
use Rattle.cache_terms.specs.declared.events.Limits.{Limits}

-- the text is a number of the range
pub record IsWithin (text : List ℕ) (least most n : ℕ) : Type 0 where
  pub number : IsNumber text n
  pub from : least ≤ n
  pub to : n ≤ most

-- rehearse EVENTS BYTES
pub record IsRehearseLine (words : List (List ℕ)) (limits : Limits) : Type 0 where
  pub form : HasForm words (codes "rehearse") 3
  pub events : IsWithin (word words 1) 8 65536 limits.events
  pub bytes : IsWithin (word words 2) 16 268435456 limits.bytes

-- workload STEPS
pub record IsWorkloadLine (words : List (List ℕ)) (steps : ℕ) : Type 0 where
  pub form : HasForm words (codes "workload") 2
  pub steps_is : IsWithin (word words 1) 1 100000 steps

-- the words of the command
abbrev pub IsCommandLine : List (List ℕ) → Command → Type 0
IsCommandLine words (command.Rehearse limits) = IsRehearseLine words limits
IsCommandLine words command.Ask = HasForm words (codes "ask") 1
IsCommandLine words (command.Workload steps) = IsWorkloadLine words steps
IsCommandLine words command.Help = HasForm words (codes "--help") 1
IsCommandLine words command.Version = HasForm words (codes "--version") 1

-- the command that the words ask for, or none
abbrev pub IsCommandOf : List (List ℕ) → Option Command → Type 0
IsCommandOf words (Some c) = IsCommandLine words c
IsCommandOf words None = (c : Command) → IsCommandLine words c → ⊥

-- the words after the program's name
abbrev pub after_name : {A : Type 0} → List (String A) → List (List ℕ)
after_name args = drop 1 (map string_bytes args)

-- the words that are given: those after the name; none stand for words that are not UTF-8; and where memory ran out for
-- the words, there are none
abbrev pub AreGiven : {A : Type 0} → Result (IntoIter (String A) A) Error → Option (List (List ℕ)) → Type 0
AreGiven (Ok args) (Some words) = words ≡ after_name (into_iter_items args)
AreGiven (Ok args) None = Unit {0}
AreGiven (Err e) (Some words) = (words ≡ []) × (error_kind e ≢ kind.OutOfMemory)
AreGiven (Err e) None = error_kind e ≡ kind.OutOfMemory
