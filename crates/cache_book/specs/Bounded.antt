-- Serves private clauses and proofs alone: the events of an epoch, with the limits that they keep, and the number of
-- probes so far.
use Rattle.std.specs.Prelude.{◌≡◌, ℕ, List, ◌++◌, length, All}
use Rattle.cache_terms.specs.declared.events.Limits.{Limits}
use Rattle.cache_terms.specs.declared.events.Event.{Event}
use Rattle.cache_model.specs.Journal.{Started, starts, IsOpen}
use Rattle.cache_model.specs.Legal.{IsLegal}
use Rattle.cache_model.specs.State.{State}
use Rattle.book_tables.specs.Standing.{IsLookupOrStart}

-- events within limits
pub record Bounded : Type 0 where
  pub limits : Limits
  pub events : List Event
  pub probes : ℕ

-- the state with these events in this epoch
abbrev pub in_epoch : ℕ → Bounded → State
in_epoch epoch j = record { limits = j.limits; epoch = epoch; journal = j.events; probes = j.probes }

-- the events went on with Lookups and Starts from a front, which is legal, has this length and so many Starts
pub record WentOn (limits : Limits) (events : List Event) (len started : ℕ) : Type 0 where
  pub front : List Event
  pub more : List Event
  pub split : events ≡ front ++ more
  pub length_is : length front ≡ len
  pub quiet : All IsLookupOrStart more
  pub legal : IsLegal limits front
  pub starts_is : starts front ≡ started

-- each ticket that is open before is open afterwards
abbrev pub KeepsOpen : (before after : List Event) → Type 0
KeepsOpen before after = (t : ℕ) (s : Started) → IsOpen before t s → IsOpen after t s
