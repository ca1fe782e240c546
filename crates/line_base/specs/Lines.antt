-- What contracts see of a line, and what one fetch over it does.
use Rattle.std.specs.Prelude.{◌≡◌, ℕ, ◌+◌, ◌-◌, ◌^◌, ◌<◌, ◌≤◌, ◌==◌, min, if◌then◌else◌, List, [], ◌∷◌, length, All, IfSome, Option, Result, Ok, Err}
use Rattle.flow_base.specs.Causes.{Rose}
use Rattle.cache_terms.specs.declared.keys.Key.{Key}
use Rattle.cache_terms.specs.declared.events.Mark.{Mark}
use Rattle.cache_terms.specs.declared.events.Reply.{Reply}
use Rattle.cache_book.specs.Permits.{Granted}
use Rattle.line_base.specs.declared.line.Call as calls
use Rattle.line_base.specs.declared.line.LineFault.{LineFault}
use Rattle.line_base.specs.declared.line.LineFault.TheVariants as fault
use Rattle.line_base.specs.declared.script.Scripted.{Scripted}
use Rattle.line_base.specs.Foretold.{IsForetold}
use Rattle.flow_base.specs.Logs.{Grows}

-- what names a permit to the outside
pub record PermitName : Type 0 where
  pub epoch : ℕ
  pub mark : Mark
  pub key : Key

abbrev pub name_of : Granted → PermitName
name_of p = record { epoch = p.epoch; mark = p.mark; key = p.key }

abbrev pub names_of : List Granted → List PermitName
names_of [] = []
names_of (p ∷ ps) = name_of p ∷ names_of ps

-- one fetch: the permits under which it was made, what was asked, and what came
pub record Entry : Type 0 where
  pub permits : List PermitName
  pub call : calls.Call
  pub answer : Result Reply LineFault

-- what a log tells of a fetch: want of memory is not told
abbrev pub told_by : Result Reply LineFault → Entry → List Entry
told_by (Ok reply) e = e ∷ []
told_by (Err fault.Failed) e = e ∷ []
told_by (Err (fault.TooLong n)) e = e ∷ []
told_by (Err fault.Memory) e = []

abbrev pub told_of : Entry → List Entry
told_of e = told_by e.answer e

-- the number of calls after these
abbrev pub calls_after : ℕ → List Entry → ℕ
calls_after calls [] = calls
calls_after calls (e ∷ es) = calls_after (min (calls + 1) (2 ^ 64 - 1)) es

-- what contracts see of a line
pub record Line : Type 0 where
  -- the fetches so far, where they are told
  pub log : Option (List Entry)
  -- their number, up to the greatest number of 64 bits
  pub calls : ℕ
  -- how often it has failed for a subgraph, up to the greatest number of 64 bits
  pub faults : ℕ → ℕ
  -- what it will answer, where that is told
  pub foretold : Option (List Scripted)

-- a log that is told has an entry for each call
abbrev pub IsCounted : Line → Type 0
IsCounted line = IfSome line.log (λ entries. line.calls ≡ length entries)

-- a fault comes only for its cause
abbrev pub HasLineCause : Line → calls.Call → Result Reply LineFault → Line → Type 0
HasLineCause old call (Err fault.Failed) new = Rose (old.faults call.sub) (new.faults call.sub)
HasLineCause old call (Err (fault.TooLong n)) new = 16384 < n
HasLineCause old call (Err fault.Memory) new = (new.log ≡ old.log) × (new.calls ≡ old.calls)
HasLineCause old call (Ok reply) new = Unit {0}

-- what a fetch does to the line
pub record Fetches (old : Line) (permits : List Granted) (call : calls.Call) (answer : Result Reply LineFault) (new : Line) : Type 0 where
  pub before : IsCounted old
  pub told : Grows old.log new.log (told_of (record { permits = names_of permits; call = call; answer = answer }))
  pub counted : IsCounted new
  pub calls : new.calls ≡ calls_after old.calls (told_of (record { permits = names_of permits; call = call; answer = answer }))
  pub later : (sub : ℕ) → old.faults sub ≤ new.faults sub
  pub cause : HasLineCause old call answer new
  pub foretold : IsForetold old.foretold call answer new.foretold

-- CHAINS OF FETCHES

-- how many fetches from this subgraph have failed
abbrev pub failed_by : Result Reply LineFault → ℕ
failed_by (Ok reply) = 0
failed_by (Err fault.Failed) = 1
failed_by (Err (fault.TooLong n)) = 0
failed_by (Err fault.Memory) = 0

abbrev pub failures : ℕ → List Entry → ℕ
failures sub [] = 0
failures sub (e ∷ es) = (if e.call.sub == sub then failed_by e.answer else 0) + failures sub es

-- a reply is too long only where it is above the limit
abbrev pub IsLong : Result Reply LineFault → Type 0
IsLong (Err (fault.TooLong n)) = 16384 < n
IsLong (Err fault.Failed) = Unit {0}
IsLong (Err fault.Memory) = Unit {0}
IsLong (Ok reply) = Unit {0}

-- their answers were foretold, one after the other
abbrev pub AreServed : Option (List Scripted) → List Entry → Option (List Scripted) → Type 0
AreServed old [] new = new ≡ old
AreServed old (e ∷ es) new = (mid : Option (List Scripted)) × IsForetold old e.call e.answer mid × AreServed mid es new

-- over the line these fetches were made, in order, and no others but such as found no memory
pub record Gains (old : Line) (entries : List Entry) (new : Line) : Type 0 where
  pub told : Grows old.log new.log entries
  pub calls : new.calls ≡ calls_after old.calls entries
  pub faults : (sub : ℕ) → (old.faults sub ≤ new.faults sub) × (min (old.faults sub + failures sub entries) (2 ^ 64 - 1) ≤ new.faults sub)
  pub long : All (λ (e : Entry). IsLong e.answer) entries
  pub foretold : AreServed old.foretold entries new.foretold
