-- Which journal the tables stand for.
use Rattle.std.specs.Prelude.{◌≡◌, ◌↔◌, ℕ, ◌<◌, ◌≤◌, Bool, true, List, ◌++◌, All, length, slice_get, vec_capacity, Option, Some, None}
use Rattle.std.specs.FinMap as map
use Rattle.std.specs.List.{list_any}
use Rattle.std.specs.Option.{option_map}
use Rattle.cache_terms.specs.declared.keys.Key.{Key}
use Rattle.cache_terms.specs.declared.keys.Target.{Target}
use Rattle.cache_terms.specs.declared.events.Event.{Event}
use Rattle.cache_terms.specs.declared.events.Event.TheVariants.{Lookup, Start, Settle, Invalidate}
use Rattle.cache_terms.specs.declared.events.Limits.{Limits}
use Rattle.cache_model.specs.Journal.{Started, IsOpen, start_of, starts, settles, reserved, bytes, Kept, IsHeld, IsHeldUnder}
use Rattle.cache_model.specs.Legal.{EachFits}
use Rattle.book_index.specs.Stamps.{Positions}
use Rattle.book_index.specs.Telling.{StampsTell}
use Rattle.book_index.specs.Positions.{position_at}
use Rattle.book_index.specs.Under.{is_under}
use Rattle.book_tables.specs.declared.tables.Tables.{Tables}

-- what is held for the key and scope stands at the position, or nothing is held for them
abbrev pub IsHeldFor : List Event → Key → Option (List ℕ) → Option ℕ → Type 0
IsHeldFor J key scope None = (q : ℕ) (k : Kept) → IsHeld J q k → k.key ≡ key → k.scope ≡ scope → ⊥
IsHeldFor J key scope (Some q) = (k : Kept) × IsHeld J q k × (k.key ≡ key) × (k.scope ≡ scope)

-- the first ticket that is not settled, or the number of tickets where all are
pub record IsOldest (settled : List Bool) (oldest : ℕ) : Type 0 where
  pub within : oldest ≤ length settled
  pub below : (t : ℕ) → t < oldest → slice_get settled t ≡ Some true
  pub first : slice_get settled oldest ≡ Some true → ⊥

-- where no ticket is open there are no stamps; else they tell of what is above the Start of the oldest open ticket
abbrev pub StampsStand : List Event → Option ℕ → Positions → Type 0
StampsStand J None stamps = stamps ≡ map.empty
StampsStand J (Some at) stamps = StampsTell J at stamps

-- the tables say what the journal says: where each ticket has its Start, whether it is settled, which open ticket is the
-- oldest, how many are open, how many bytes are kept, what is held for each key and under each target, and what the
-- stamps tell. There is room for as many Starts as stamps
pub record StandsFor (tables : Tables) (J : List Event) : Type 0 where
  pub count : length tables.starts.items ≡ starts J
  pub started : (t : ℕ) → slice_get tables.starts.items t ≡ option_map (λ s. s.at) (start_of J t)
  pub count_settled : length tables.settled.items ≡ starts J
  pub settled : (t : ℕ) → t < starts J → slice_get tables.settled.items t ≡ Some (list_any (settles t) J)
  pub oldest : IsOldest tables.settled.items tables.oldest
  pub pending : tables.pending ≡ reserved J
  pub bytes : tables.bytes ≡ bytes J
  pub keys : (key : Key) (scope : Option (List ℕ)) → IsHeldFor J key scope (position_at tables.keys key scope)
  pub holders : (target : Target) (q : ℕ) → (is_under tables.holders target q ≡ true) ↔ IsHeldUnder J target q
  pub stamps : StampsStand J (slice_get tables.starts.items tables.oldest) tables.stamps.stamps
  pub few : map.len tables.stamps.stamps ≤ length J
  pub room_starts : tables.stamps.limit ≤ vec_capacity tables.starts
  pub room_settled : tables.stamps.limit ≤ vec_capacity tables.settled

-- each event fits the journal before it, within some limits
abbrev pub IsRegular : List Event → Type 0
IsRegular J = (limits : Limits) × EachFits limits J

-- the event is a Lookup or a Start
abbrev pub IsLookupOrStart : Event → Type 0
IsLookupOrStart (Lookup who key id now hit) = Unit {0}
IsLookupOrStart (Start who ticket key id now) = Unit {0}
IsLookupOrStart (Settle who ticket got out) = ⊥
IsLookupOrStart (Invalidate who target count) = ⊥

-- new stands for each journal with so many Starts from which one that old stands for goes on with Lookups and Starts
abbrev pub RollsBack : Tables → ℕ → Tables → Type 0
RollsBack old count new = (J more : List Event) → StandsFor old (J ++ more) → IsRegular (J ++ more) → All IsLookupOrStart more → starts J ≡ count → StandsFor new J

-- the ticket that s started is open, and no earlier one is
pub record IsOldestOpen (J : List Event) (t : ℕ) (s : Started) : Type 0 where
  pub unsettled : IsOpen J t s
  pub oldest : (u : ℕ) (r : Started) → IsOpen J u r → t ≤ u
