-- What lies in the lock, and how it goes from turn to turn.
use Rattle.std.specs.Prelude.{◌≡◌, ℕ, ◌<◌, Option, Some, None}
use Rattle.cache_terms.specs.declared.events.Limits.{Limits}
use Rattle.cache_model.specs.State.{State, opened}
use Rattle.cache_model.specs.Story.{Follows, Without, By}

-- the book, who took the last turn on it, or nobody, and the number of handles
pub record Shared : Type 0 where
  pub book : State
  pub last : Option ℕ
  pub members : ℕ

-- there are some handles, and who took the last turn is one of them
pub record IsNumbered (last : Option ℕ) (members : ℕ) : Type 0 where
  pub some : 0 < members
  pub below : (k : ℕ) → last ≡ Some k → k < members

-- before the first turn
abbrev pub untouched : Limits → ℕ → Shared
untouched limits members = record { book = opened limits 0; last = None; members = members }

-- the book of b comes after that of a
abbrev pub BookFollows : Shared → Shared → Type 0
BookFollows a b = Follows a.book b.book

-- from a to b there was no turn of k; so where k took the last turn, or nobody did, there was none at all
pub record WithoutTurn (a b : Shared) (k : ℕ) : Type 0 where
  pub book : Without a.book b.book k
  pub own : b.last ≡ Some k → b ≡ a
  pub nobody : b.last ≡ None → b ≡ a
  pub members : b.members ≡ a.members

-- from a to b there was one turn, which k took
pub record ByTurn (a b : Shared) (k : ℕ) : Type 0 where
  pub book : By a.book b.book k
  pub last : b.last ≡ Some k
  pub members : b.members ≡ a.members
