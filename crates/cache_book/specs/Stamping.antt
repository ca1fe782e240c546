-- Which ticket is open the longest.
use Rattle.std.specs.Prelude.{ℕ, ◌≤◌, List}
use Rattle.cache_terms.specs.declared.events.Event.{Event}
use Rattle.cache_model.specs.Journal.{Started, IsOpen}

-- s is the Start of an open ticket, and no open ticket has an earlier one
pub record IsOldestOpen (J : List Event) (s : Started) : Type 0 where
  pub ticket : ℕ
  pub unsettled : IsOpen J ticket s
  pub first : (t : ℕ) (other : Started) → IsOpen J t other → s.at ≤ other.at
