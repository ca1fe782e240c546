-- How one state of a book comes after another. Every call leads to a state that follows, and adds events of its own
-- caller alone.
use Rattle.std.specs.Prelude.{◌≡◌, ◌≢◌, ◌⊎◌, ℕ, ◌<◌, List, ◌++◌, All}
use Rattle.cache_terms.specs.declared.events.Event.{Event}
use Rattle.cache_terms.specs.declared.events.Event.TheVariants.{Lookup, Start, Settle, Invalidate}
use Rattle.cache_model.specs.State.{State}

-- the caller whose event it is
abbrev pub who_of : Event → ℕ
who_of (Lookup who key id now hit) = who
who_of (Start who ticket key id now) = who
who_of (Settle who ticket got out) = who
who_of (Invalidate who target count) = who

-- the events that b adds to a: all of b's where the epoch has turned since, else those past a's
abbrev pub Adds : State → State → List Event → Type 0
Adds a b added = ((a.epoch < b.epoch) × (b.journal ≡ added)) ⊎ ((a.epoch ≡ b.epoch) × (b.journal ≡ a.journal ++ added))

-- b comes after a
pub record Follows (a b : State) : Type 0 where
  pub limits : b.limits ≡ a.limits
  pub added : List Event
  pub adds : Adds a b added

-- b comes after a, and nothing that was added is of caller k
pub record Without (a b : State) (k : ℕ) : Type 0 where
  pub limits : b.limits ≡ a.limits
  pub added : List Event
  pub adds : Adds a b added
  pub none : All (λ e. who_of e ≢ k) added

-- b comes after a, and all that was added is of caller k
pub record By (a b : State) (k : ℕ) : Type 0 where
  pub limits : b.limits ≡ a.limits
  pub added : List Event
  pub adds : Adds a b added
  pub all : All (λ e. who_of e ≡ k) added
