-- What a line for tests tells.
use Rattle.std.specs.Prelude.{◌≡◌, ℕ, ◌==◌, ◌++◌, ◌-◌, ◌^◌, min, nat_lt, if◌then◌else◌, length, List, [], ◌∷◌, Option, Some, None, Result, Ok, Err}
use Rattle.cache_terms.specs.declared.keys.Key.{Key}
use Rattle.cache_terms.specs.declared.events.Mark.{Mark}
use Rattle.cache_terms.specs.declared.events.Reply.{Reply}
use Rattle.line_base.specs.declared.line.LineFault.{LineFault}
use Rattle.line_base.specs.declared.line.LineFault.TheVariants as fault
use Rattle.cache_book.specs.Permits.{Granted}
use Rattle.line_base.specs.declared.line.Call as calls
use Rattle.line_base.specs.declared.script.Scripted.{Scripted}
use Rattle.line_base.specs.declared.script.Told.{Told}
use Rattle.line_base.specs.Foretold.{answer_told, answer_for, left_for}
use Rattle.line_base.specs.Lines.{PermitName, Entry, Line, names_of, failures}

abbrev pub names_told : List (ℕ × Mark × Key) → List PermitName
names_told [] = []
names_told (n ∷ ns) = record { epoch = n.0; mark = n.1; key = n.2 } ∷ names_told ns

abbrev pub entry_of : Told → Entry
entry_of t = record { permits = names_told t.permits.items; call = t.call; answer = answer_told t.reply }

abbrev pub entries_told : List Told → List Entry
entries_told [] = []
entries_told (t ∷ ts) = entry_of t ∷ entries_told ts

-- a line for tests: the unused entries, and what it has told
pub record Script : Type 0 where
  pub replies : List Scripted
  pub log : List Entry

-- the line: its log is told while its calls can be counted, and its unused entries foretell its answers
abbrev pub script_line : Script → Line
script_line s = record {
  log = if nat_lt (length s.log) (2 ^ 64 - 1) then Some s.log else None;
  calls = min (length s.log) (2 ^ 64 - 1);
  faults = λ sub. min (failures sub s.log) (2 ^ 64 - 1);
  foretold = Some s.replies;
}

-- the call is answered by that entry, which is used, and is told
pub record ServesOne (old : Script) (permits : List Granted) (call : calls.Call) (answer : Result Reply LineFault) (new : Script) : Type 0 where
  pub answer_is : answer ≡ answer_told (answer_for call.sub old.replies)
  pub after : new ≡ record { replies = left_for call.sub old.replies; log = old.log ++ record { permits = names_of permits; call = call; answer = answer } ∷ [] }

-- or it finds no memory, and nothing has changed
abbrev pub ServesScript : Script → List Granted → calls.Call → Result Reply LineFault → Script → Type 0
ServesScript old permits call (Ok reply) new = ServesOne old permits call (Ok reply) new
ServesScript old permits call (Err fault.Failed) new = ServesOne old permits call (Err fault.Failed) new
ServesScript old permits call (Err (fault.TooLong n)) new = ServesOne old permits call (Err (fault.TooLong n)) new
ServesScript old permits call (Err fault.Memory) new = new ≡ old
