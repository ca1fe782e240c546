-- What contracts see of a cache.
use Rattle.std.specs.Prelude.{◌≡◌, ◌≢◌, ℕ, ◌<◌, ◌≤◌, Bool, List, All, Option}
use Rattle.cache_terms.specs.declared.events.Event.{Event}
use Rattle.cache_model.specs.State.{State}
use Rattle.cache_model.specs.Story.{who_of}
use Rattle.cache_book.specs.Permits.{Pinned}
use Rattle.cache_seam.specs.Objects.{KeepsObjects}

-- the state that a call found, and the state that it left
pub record Visit : Type 0 where
  pub found : State
  pub left : State

pub record Seen : Type 0 where
  -- the user's number
  pub number : ℕ
  -- the epoch to which it is pinned, whether a look may be made in it, and that epoch's journal as it was last seen
  pub pinned : ℕ
  pub begun : Bool
  pub journal : List Event
  -- the state that its last call left
  pub left : State
  -- the book on which it stands
  pub home : List ℕ
  -- whether nobody else steps on that book
  pub lone : Bool
  -- its calls since it was opened, where it tells them
  pub trace : Option (List Visit)

-- who looks, and in which epoch
abbrev pub pass_of : Seen → Pinned
pass_of c = record { who = c.number; epoch = c.pinned }

-- between two calls: the epoch to which it is pinned has been reached, and the journal seen is that epoch's as far as
-- the user knows it; in a later epoch it has no event yet
pub record IsCoherent (c : Seen) : Type 0 where
  pub reached : c.pinned ≤ c.left.epoch
  pub current : c.pinned ≡ c.left.epoch → c.journal ≡ c.left.journal
  pub over : c.pinned < c.left.epoch → All (λ e. who_of e ≢ c.number) c.left.journal
  pub lawful : KeepsObjects c.left
