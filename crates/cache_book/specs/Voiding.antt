-- What an invalidation answers and leaves, and what a tally answers.
use Rattle.std.specs.Prelude.{◌≡◌, ℕ, ◌+◌, ◌-◌, ◌^◌, ◌==◌, nat_lt, if◌then◌else◌, [], ◌∷◌, ◌++◌, length}
use Rattle.cache_terms.specs.declared.keys.Target.{Target}
use Rattle.cache_terms.specs.declared.events.Event.TheVariants.{Invalidate}
use Rattle.cache_book.specs.declared.answers.Tally.{Tally}
use Rattle.cache_book.specs.declared.answers.Turned.{Turned}
use Rattle.cache_book.specs.declared.answers.Turned.TheVariants as turn
use Rattle.cache_book.specs.declared.answers.Voided.{Voided}
use Rattle.cache_model.specs.Journal.{bytes, reserved, IsHeldUnder, IsCount}
use Rattle.cache_model.specs.State.{State, turned}

-- whether an invalidation turns the epoch: it does where the journal has no room for one more event
abbrev pub turning : State → Turned
turning s =
    if s.epoch == 2 ^ 64 - 1 then turn.Retired
    else (if nat_lt s.limits.events (length s.journal + reserved s.journal + 1) then turn.Full (length s.journal) (reserved s.journal) s.limits.events
    else turn.No)

-- one Invalidate is appended, and its count is the number of held pieces that the target covers
pub record AppendsVoid (old : State) (who : ℕ) (target : Target) (how : Turned) (answer : Voided) (new : State) : Type 0 where
  pub count : IsCount (IsHeldUnder old.journal target) (length old.journal) answer.count
  pub epoch : answer.epoch ≡ old.epoch
  pub position : answer.position ≡ length old.journal
  pub turned_is : answer.turned ≡ how
  pub after : new ≡ record old { journal = old.journal ++ Invalidate who target answer.count ∷ [] }

-- in the last epoch nothing is held, and nothing is appended
pub record AppendsNoVoid (old : State) (answer : Voided) (new : State) : Type 0 where
  pub answer_is : answer ≡ record { epoch = old.epoch; position = 0; count = 0; turned = turn.Retired }
  pub same : new ≡ old

abbrev pub VoidsBy : Turned → State → ℕ → Target → Voided → State → Type 0
VoidsBy turn.No old who target answer new = AppendsVoid old who target turn.No answer new
VoidsBy (turn.Full events open_tickets limit) old who target answer new = AppendsVoid (turned old) who target (turn.Full events open_tickets limit) answer new
VoidsBy turn.Retired old who target answer new = AppendsNoVoid old answer new

-- what invalidating the target answers and leaves
abbrev pub Voids : State → ℕ → Target → Voided → State → Type 0
Voids old who target answer new = VoidsBy (turning old) old who target answer new

-- how much of a state is used
abbrev pub tally_of : State → Tally
tally_of s = record { epoch = s.epoch; events = length s.journal; bytes = bytes s.journal; pending = reserved s.journal }
