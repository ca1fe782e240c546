-- Each call on a book is a step of one machine.
use Rattle.std.specs.Prelude.{◌≡◌, ℕ, List, [], ◌∷◌, Option}
use Rattle.cache_terms.specs.declared.keys.Key.{Key}
use Rattle.cache_terms.specs.declared.keys.Target.{Target}
use Rattle.cache_terms.specs.declared.events.Outcome.TheVariants as outcome
use Rattle.cache_book.specs.declared.answers.Settled.{Settled}
use Rattle.cache_book.specs.declared.answers.Voided as voided
use Rattle.cache_book.specs.declared.answers.Tally as tally
use Rattle.cache_book.specs.declared.found.Found.{Found}
use Rattle.cache_book.specs.declared.permit.Report.{Report}
use Rattle.cache_model.specs.State.{State, begun}
use Rattle.cache_book.specs.Permits.{Pinned, Granted}
use Rattle.cache_book.specs.Settling.{Settles, MaySettle, IsInRange}
use Rattle.cache_book.specs.Looking.{Looks}
use Rattle.cache_book.specs.Voiding.{Voids, tally_of}
use Rattle.cache_book.specs.Owed.{Differ}

-- a call with what it is given
pub data Call : Type 0 where
  Begin : (who : ℕ) → Call
  Look : (pass : Pinned) (id : Option (List ℕ)) (asks : List Key) (now : ℕ) → Call
  Settle : (permit : Granted) (report : Report) → Call
  Invalidate : (who : ℕ) (target : Target) → Call
  Tally : Call

-- what a call answers
pub data Answer : Type 0 where
  Begun : (pass : Pinned) → Answer
  Looked : (answers : List Found) → Answer
  Closed : (settled : Settled) → Answer
  Voided : (answer : voided.Voided) → Answer
  Tallied : (answer : tally.Tally) → Answer
  OutOfMemory : Answer

-- the caller, where the call is some caller's
abbrev pub IsCaller : Call → ℕ → Type 0
IsCaller (Begin who) k = who ≡ k
IsCaller (Look pass id asks now) k = pass.who ≡ k
IsCaller (Settle permit report) k = permit.who ≡ k
IsCaller (Invalidate who target) k = who ≡ k
IsCaller Tally k = Unit {0}

-- from old the call may have this answer, and leave new
abbrev pub Step : State → Call → Answer → State → Type 0
Step old (Begin who) (Begun started) new = (new ≡ begun old) × (started ≡ record { who = who; epoch = new.epoch })
Step old (Look pass id asks now) (Looked answers) new = Looks old pass id asks now answers new
Step old (Look pass id asks now) OutOfMemory new = new ≡ old
Step old (Settle permit report) (Closed settled) new = Settles old permit report settled new
Step old (Invalidate who target) (Voided answer) new = Voids old who target answer new
Step old Tally (Tallied answer) new = (answer ≡ tally_of old) × (new ≡ old)
Step old call answer new = ⊥

-- what has to hold where the call is made: a permit may be settled, and its report is in range
abbrev pub MayCall : State → Call → Type 0
MayCall old (Settle permit report) = MaySettle old permit × IsInRange report
MayCall old other = Unit {0}

-- the answer is want of memory: a look found none, or a settle found none for what would be stored
abbrev pub IsWantOfMemory : Answer → Type 0
IsWantOfMemory OutOfMemory = Unit {0}
IsWantOfMemory (Closed settled) = settled.outcome ≡ outcome.Memory
IsWantOfMemory other = ⊥

-- no answer but want of memory can come
abbrev pub IsStuck : State → Call → Type 0
IsStuck old call = (answer : Answer) (new : State) → (IsWantOfMemory answer → ⊥) → Step old call answer new → ⊥

-- the call does not spend the permit
abbrev pub Spares : Call → Granted → Type 0
Spares (Settle permit report) p = Differ p permit
Spares other p = Unit {0}

-- none of the answers is want of memory
abbrev pub FoundMemory : List Answer → Type 0
FoundMemory [] = Unit {0}
FoundMemory (answer ∷ answers) = (IsWantOfMemory answer → ⊥) × FoundMemory answers

-- the calls, each made where it may be, have these answers one after another
abbrev pub Run : State → List Call → List Answer → State → Type 0
Run old [] [] new = new ≡ old
Run old (call ∷ calls) (answer ∷ answers) new = (mid : State) × MayCall old call × Step old call answer mid × Run mid calls answers new
Run old [] (answer ∷ answers) new = ⊥
Run old (call ∷ calls) [] new = ⊥
