-- A cache on whose book a second user steps between its calls.
use Rattle.std.specs.Prelude.{◌≡◌, ◌⊎◌, ℕ, ◌==◌, Bool, true, false, if◌then◌else◌, List, [], ◌∷◌, drop, map, Vec, All, Option, None}
use Rattle.std.specs.Global.{Global}
use Rattle.cache_terms.specs.declared.keys.Key.{Key}
use Rattle.cache_terms.specs.declared.offers.Offer.{Offer}
use Rattle.cache_terms.specs.declared.events.Event.{Event}
use Rattle.cache_book.specs.declared.answers.Settled.{Settled}
use Rattle.cache_book.specs.declared.answers.Voided as voided
use Rattle.cache_book.specs.declared.found.Found.{Found}
use Rattle.cache_book.specs.declared.found.Found.TheVariants as found
use Rattle.cache_book.specs.declared.permit.Report.TheVariants as report
use Rattle.cache_model.specs.State.{State}
use Rattle.cache_book.specs.Permits.{Pinned}
use Rattle.cache_book.specs.Settling.{IsInRange}
use Rattle.cache_book.specs.Calls.{Call, Answer, Step, Begin, Begun, Look, Looked, Settle, Closed, Invalidate, Voided}
use Rattle.cache_seam.specs.declared.foreign.Foreign.{Foreign}
use Rattle.cache_seam.specs.declared.foreign.Foreign.TheVariants as foreign
use Rattle.cache_seam.specs.Objects.{OffersObject}
use Rattle.cache_seam.specs.Seen.{Seen, IsCoherent}
use Rattle.cache_seam.specs.Turns.{Calls}

-- its number is 0, a second user steps on its book, and it tells no trace; past is the journal of an epoch that was
-- turned by the second user
abbrev pub seen_meddled : State → ℕ → Bool → List Event → Seen
seen_meddled s pinned begun past = record { number = 0; pinned = pinned; begun = begun; journal = if s.epoch == pinned then s.journal else past; left = s; home = []; lone = false; trace = None }

-- what contracts see of it
pub record Meddling : Type 0 where
  pub seen : Seen
  -- the pass under which the second user looks
  pub pass : Pinned
  -- the second user's steps before each of the next calls
  pub later : List (List Foreign)

-- what is offered is the text of an object, with a lifetime and an age in their range
abbrev pub IsFitting : Foreign → Type 0
IsFitting foreign.Begin = Unit {0}
IsFitting (foreign.Void target) = Unit {0}
IsFitting (foreign.Put key id offer now) = OffersObject (report.Got offer) × IsInRange (report.Got offer)

-- ONE STEP OF THE SECOND USER, whose number is 1

-- a piece that was not found is settled with the offer
abbrev pub SettlesMiss : Found → State → Offer → State → Type 0
SettlesMiss (found.Hit lookup stored value left_ms private) old offer new = new ≡ old
SettlesMiss (found.Miss lookup permit) old offer new = (settled : Settled) × Step old (Settle permit (report.Got offer)) (Closed settled) new
SettlesMiss (found.Bypass permit) old offer new = (settled : Settled) × Step old (Settle permit (report.Got offer)) (Closed settled) new

-- a look for the key, and a settle at once where it was not found
pub record Puts (pass : Pinned) (key : Key) (id : Option (List ℕ)) (offer : Offer) (now : ℕ) (old new : State) : Type 0 where
  pub answer : Found
  pub mid : State
  pub looks : Step old (Look pass id (key ∷ []) now) (Looked (answer ∷ [])) mid
  pub closes : SettlesMiss answer mid offer new

-- the step is done, and the second user has this pass afterwards
abbrev pub DoesForeign : Foreign → Pinned → State → State → Pinned → Type 0
DoesForeign foreign.Begin pass old new after = Step old (Begin 1) (Begun after) new
DoesForeign (foreign.Void target) pass old new after = ((answer : voided.Voided) × Step old (Invalidate 1 target) (Voided answer) new) × (after ≡ pass)
DoesForeign (foreign.Put key id offer now) pass old new after = Puts pass key id offer now old new × (after ≡ pass)

-- the step is done; or it found no memory, and is left out
abbrev pub MayDo : Foreign → Pinned → State → State → Pinned → Type 0
MayDo step pass old new after = DoesForeign step pass old new after ⊎ ((new ≡ old) × (after ≡ pass))

-- each step in turn
abbrev pub Meddles : List Foreign → Pinned → State → State → Pinned → Type 0
Meddles [] pass old new after = (new ≡ old) × (after ≡ pass)
Meddles (step ∷ steps) pass old new after = (mid : State) × (between : Pinned) × MayDo step pass old mid between × Meddles steps between mid new after

-- A CALL

-- the second user's steps before each of the next calls
abbrev pub steps_of : List (Vec Foreign Global) → List (List Foreign)
steps_of lists = map (λ (v : Vec Foreign Global). v.items) lists

-- what is known between two calls
pub record IsBetweenCalls (s : State) (pass : Pinned) (pinned : ℕ) (begun : Bool) (past : List Event) (second : Pinned) (later : List (List Foreign)) : Type 0 where
  pub coherent : IsCoherent (seen_meddled s pinned begun past)
  pub own : begun ≡ true → pass ≡ record { who = 0; epoch = pinned }
  pub number : second.who ≡ 1
  pub fitting : All (All IsFitting) later

-- the journal seen before is kept aside, or the second user did nothing
abbrev pub IsSetAside : State → State → ℕ → List Event → List Event → Type 0
IsSetAside old found pinned past kept = (kept ≡ (if old.epoch == pinned then old.journal else past)) ⊎ ((found ≡ old) × (kept ≡ past))

abbrev pub first_steps : List (List Foreign) → List Foreign
first_steps [] = []
first_steps (steps ∷ later) = steps

-- one call of the first user: the state found is that which the second user's next steps left
pub record MeddledCall (old : Meddling) (call : Call) (answer : Answer) (new : Meddling) : Type 0 where
  pub calls : Calls old.seen call answer new.seen
  pub meddles : Meddles (first_steps old.later) old.pass old.seen.left calls.turn.found new.pass
  pub later : new.later ≡ drop 1 old.later
