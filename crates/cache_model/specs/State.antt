-- What a book is at a moment, and when its epoch turns.
use Rattle.std.specs.Prelude.{ℕ, ◌+◌, ◌-◌, ◌*◌, ◌^◌, ◌≤◌, Bool, nat_le, nat_eq, ◌&&◌, ◌||◌, not, if◌then◌else◌, List, [], length}
use Rattle.cache_terms.specs.declared.events.Limits.{Limits}
use Rattle.cache_terms.specs.declared.events.Event.{Event}
use Rattle.cache_model.specs.Journal.{bytes}
use Rattle.cache_model.specs.Legal.{IsLegal}

-- an epoch and its journal, within limits that no call changes, and how many probes of stamps were made so far
pub record State : Type 0 where
  pub limits : Limits
  pub epoch : ℕ
  pub journal : List Event
  pub probes : ℕ

-- the limits are in their ranges
pub record IsWithinRanges (limits : Limits) : Type 0 where
  pub least_events : 8 ≤ limits.events
  pub most_events : limits.events ≤ 65536
  pub least_bytes : 16 ≤ limits.bytes
  pub most_bytes : limits.bytes ≤ 268435456

-- a state that a book can have
pub record IsLegalState (s : State) : Type 0 where
  pub legal : IsLegal s.limits s.journal
  pub ranges : IsWithinRanges s.limits

-- the state of a book that was just opened
abbrev pub opened : Limits → ℕ → State
opened limits first = record { limits = limits; epoch = first; journal = []; probes = 0 }

-- the next epoch, which is empty: its tickets begin at 0 again, and nothing is held
abbrev pub turned : State → State
turned s = record s { epoch = s.epoch + 1; journal = [] }

-- a request that begins turns the epoch: half the events or half the bytes are used, and there is a next epoch
abbrev pub turns : State → Bool
turns s = (nat_le s.limits.events (2 * length s.journal) || nat_le s.limits.bytes (2 * bytes s.journal)) && not (nat_eq s.epoch (2 ^ 64 - 1))

-- the state in which a request begins
abbrev pub begun : State → State
begun s = if turns s then turned s else s
