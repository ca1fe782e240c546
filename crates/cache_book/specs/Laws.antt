-- The laws of the machine. Each is the contract of a function of its name.
use Rattle.std.specs.Prelude.{◌≡◌, ℕ, ◌≤◌, List, Option}
use Rattle.cache_terms.specs.declared.keys.Key.{Key}
use Rattle.cache_terms.specs.declared.events.Limits.{Limits}
use Rattle.cache_book.specs.declared.found.Found.{Found}
use Rattle.cache_model.specs.State.{State, IsWithinRanges, IsLegalState, opened}
use Rattle.cache_model.specs.Story.{Follows, Without, By}
use Rattle.cache_book.specs.Permits.{Pinned, Granted}
use Rattle.cache_book.specs.Settling.{MaySettle}
use Rattle.cache_book.specs.Owed.{AreOwed}
use Rattle.cache_book.specs.Shown.{AreNew, tickets_of}
use Rattle.cache_book.specs.Calls.{Call, Answer, Look, Looked, IsWantOfMemory, IsCaller, MayCall, Step, IsStuck, Spares, Run, FoundMemory}

-- a step from a legal state leaves a legal state
abbrev pub StepIsLegal : Type 0
StepIsLegal = (old : State) (call : Call) (answer : Answer) (new : State)
    → IsLegalState old → MayCall old call → Step old call answer new → IsLegalState new

-- a step is a function of state and call, but for want of memory
abbrev pub StepIsDetermined : Type 0
StepIsDetermined = (old : State) (call : Call) (a b : Answer) (new other : State)
    → (IsWantOfMemory a → ⊥) → (IsWantOfMemory b → ⊥) → Step old call a new → Step old call b other → (a ≡ b) × (new ≡ other)

-- a step adds events of its caller alone
abbrev pub StepIsByItsCaller : Type 0
StepIsByItsCaller = (old : State) (call : Call) (answer : Answer) (new : State) (k : ℕ)
    → IsCaller call k → Step old call answer new → By old new k

-- a look hands out each ticket once, and none that was started before
abbrev pub TicketsAreNew : Type 0
TicketsAreNew = (old : State) (pass : Pinned) (id : Option (List ℕ)) (asks : List Key) (now : ℕ) (answers : List Found) (new : State)
    → IsLegalState old → Step old (Look pass id asks now) (Looked answers) new → AreNew old.journal (tickets_of answers)

-- the permits that a look hands out may be settled
abbrev pub PermitsAreOwed : Type 0
PermitsAreOwed = (old : State) (pass : Pinned) (id : Option (List ℕ)) (asks : List Key) (now : ℕ) (answers : List Found) (new : State)
    → IsLegalState old → Step old (Look pass id asks now) (Looked answers) new → AreOwed new answers

-- a step that does not spend a permit leaves it as it is
abbrev pub PermitsOutliveAStep : Type 0
PermitsOutliveAStep = (old : State) (call : Call) (answer : Answer) (new : State) (permit : Granted)
    → Step old call answer new → permit.epoch ≤ old.epoch → Spares call permit → MaySettle old permit → MaySettle new permit

-- no call is stuck: in a legal state, that it has no answer but want of memory is refuted
abbrev pub NoCallIsStuck : Type 0
NoCallIsStuck = (old : State) (call : Call) → IsLegalState old → MayCall old call → IsStuck old call → ⊥

-- what other callers do leaves a permit as it is: it may be settled, or its epoch is over
abbrev pub PermitOutlivesOthers : Type 0
PermitOutlivesOthers = (a b : State) (permit : Granted)
    → IsLegalState b → Without a b permit.who → permit.epoch ≤ a.epoch → MaySettle a permit → MaySettle b permit

-- a run of calls on a book that was opened leaves a legal state
abbrev pub RunIsLegal : Type 0
RunIsLegal = (limits : Limits) (first : ℕ) (calls : List Call) (answers : List Answer) (new : State)
    → IsWithinRanges limits → Run (opened limits first) calls answers new → IsLegalState new

-- the answers of a run are those of the machine, but for want of memory
abbrev pub RunIsDetermined : Type 0
RunIsDetermined = (old : State) (calls : List Call) (a b : List Answer) (new other : State)
    → FoundMemory a → FoundMemory b → Run old calls a new → Run old calls b other → (a ≡ b) × (new ≡ other)

-- the state that a run leaves follows
abbrev pub RunFollows : Type 0
RunFollows = (old : State) (calls : List Call) (answers : List Answer) (new : State) → Run old calls answers new → Follows old new
