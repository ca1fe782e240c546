-- For proofs alone, no public clause: what holds of the permits in hand between two lines.
use Rattle.std.specs.Prelude.{◌≡◌, ℕ, ◌<◌, ◌≤◌, List, [], ◌∷◌, Option, Some, None}
use Rattle.std.specs.FinMap as map
use Rattle.cache_terms.specs.declared.keys.Key.{Key}
use Rattle.cache_terms.specs.declared.events.Mark.{Mark}
use Rattle.cache_terms.specs.declared.events.Mark.TheVariants as mark
use Rattle.cache_model.specs.Journal.{starts}
use Rattle.cache_model.specs.State.{State}
use Rattle.cache_book.specs.Permits.{Pinned, Granted}
use Rattle.cache_book.specs.Settling.{MaySettle}
use Rattle.cache_book.specs.Calls.{Step, Look, Looked}
use Rattle.cache_book.specs.declared.found.Found.{Found}
use Rattle.cache_book.specs.declared.found.Found.TheVariants as found
use Rattle.rehearsal.specs.Scene.{Permits, handed}
use Rattle.script_lines.specs.declared.replies.Reply.{Reply}
use Rattle.rehearsal.specs.Replied.{found_reply}

-- the permit has this name, may be settled, and its ticket was drawn before
pub record IsInHand (book : State) (name : ℕ × ℕ) (p : Granted) : Type 0 where
  pub epoch_is : p.epoch ≡ name.0
  pub ticket_is : p.mark ≡ mark.Ticket name.1
  pub may : MaySettle book p
  pub begun : p.epoch ≤ book.epoch
  pub drawn : p.epoch ≡ book.epoch → name.1 < starts book.journal

-- so does each permit in hand
abbrev pub IsReady : State → Permits → Type 0
IsReady book hand = (name : ℕ × ℕ) (p : Granted) → map.get hand name ≡ Some p → IsInHand book name p

-- a permit that can be taken in hand: its name is not in use
abbrev pub IsNew : State → Permits → Granted → Mark → Type 0
IsNew book hand p (mark.Ticket ticket) = IsInHand book (p.epoch, ticket) p × (map.get hand (p.epoch, ticket) ≡ None)
IsNew book hand p other = Unit {0}

-- so can the permit of an answer
abbrev pub IsTakeable : State → Permits → Found → Type 0
IsTakeable book hand (found.Hit lookup stored value left_ms private) = Unit {0}
IsTakeable book hand (found.Miss lookup permit) = IsNew book hand permit permit.mark
IsTakeable book hand (found.Bypass permit) = IsNew book hand permit permit.mark

-- one look at one key
pub record LooksOnce (pass : Pinned) (id : Option (List ℕ)) (now : ℕ) (key : Key) (book : State) (hand : Permits) (reply : Reply) (new : State) (left : Permits) : Type 0 where
  pub answer : Found
  pub step : Step book (Look pass id (key ∷ []) now) (Looked (answer ∷ [])) new
  pub taken : left ≡ handed hand answer
  pub says : reply ≡ found_reply answer
