-- The laws of what stands for a journal. Each is the contract of a function of its name.
use Rattle.std.specs.Prelude.{◌≡◌, ℕ, List, [], ◌∷◌, ◌++◌, Option}
use Rattle.std.specs.FinMap as map
use Rattle.cache_terms.specs.declared.keys.Key.{Key}
use Rattle.cache_terms.specs.declared.events.Event.{Event}
use Rattle.cache_terms.specs.declared.events.Event.TheVariants.{Lookup}
use Rattle.cache_model.specs.Journal.{Started, IsOpen}
use Rattle.book_index.specs.Telling.{StampsTell}
use Rattle.book_tables.specs.declared.tables.Tables.{Tables}
use Rattle.book_tables.specs.Standing.{StandsFor, IsRegular, IsOldestOpen}

-- a Lookup changes nothing that the tables say
abbrev pub TablesOutliveLookups : Type 0
TablesOutliveLookups = (tables : Tables) (J : List Event) (who : ℕ) (key : Key) (id : Option (List ℕ)) (now : ℕ) (hit : Option ℕ)
    → IsRegular J → StandsFor tables J → StandsFor tables (J ++ Lookup who key id now hit ∷ [])

-- where no ticket is open there are no stamps
abbrev pub NoneOpenNoStamps : Type 0
NoneOpenNoStamps = (tables : Tables) (J : List Event) → StandsFor tables J → ((t : ℕ) (s : Started) → IsOpen J t s → ⊥) → tables.stamps.stamps ≡ map.empty

-- the stamps tell of what is above the Start of the oldest open ticket
abbrev pub StampsTellOfOldest : Type 0
StampsTellOfOldest = (tables : Tables) (J : List Event) → StandsFor tables J → (t : ℕ) (s : Started) → IsOldestOpen J t s → StampsTell J s.at tables.stamps.stamps
