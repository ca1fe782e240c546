-- Serves tests alone: a legal journal with its tables.
use Rattle.std.specs.Prelude.{◌≡◌, ℕ, ◌≤◌, List}
use Rattle.cache_terms.specs.declared.events.Limits.{Limits}
use Rattle.cache_terms.specs.declared.events.Event.{Event}
use Rattle.cache_model.specs.Legal.{IsLegal}
use Rattle.book_tables.specs.declared.tables.Tables.{Tables}
use Rattle.book_tables.specs.Standing.{StandsFor}

-- the journal is legal, the tables stand for it, and there is room for as many events as the limits allow
pub record IsShelf (limits : Limits) (J : List Event) (capacity : ℕ) (tables : Tables) : Type 0 where
  pub legal : IsLegal limits J
  pub stands : StandsFor tables J
  pub room : limits.events ≤ capacity
  pub limit : tables.stamps.limit ≡ limits.events
