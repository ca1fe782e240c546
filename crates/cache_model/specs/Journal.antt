-- What a journal says. A journal is a list of events, and a position is an index in it. It reads from top to bottom:
-- tickets, pieces, covers, what is held, what is fresh, and the choice that answers a lookup.
use Rattle.std.specs.Prelude.{◌≡◌, ◌⊎◌, ℕ, ◌+◌, ◌-◌, ◌*◌, ◌<◌, ◌≤◌, Bool, true, false, not, ◌==◌, if◌then◌else◌, List, [], ◌∷◌, sum_by, count_by, slice_get, IsSomeAnd, Option, Some, None}
use Rattle.std.proofs.Common.{zero, suc}
use Rattle.std.specs.List.{list_any}
use Rattle.std.specs.Option.{option_map, option_and_then}
use Rattle.cache_terms.specs.declared.keys.Key.{Key}
use Rattle.cache_terms.specs.declared.keys.Target.{Target}
use Rattle.cache_terms.specs.declared.tags.Tags.{Tags}
use Rattle.cache_terms.specs.declared.offers.Verdict.{Verdict}
use Rattle.cache_terms.specs.declared.events.Got.{Got}
use Rattle.cache_terms.specs.declared.events.Event.{Event}
use Rattle.cache_terms.specs.declared.events.Event.TheVariants.{Start, Settle, Invalidate}
use Rattle.cache_terms.specs.declared.events.Outcome.TheVariants as outcome
use Rattle.cache_terms.specs.Keys.{Covers}

-- TICKETS. A lookup that finds nothing starts a fetch, and the fetch has a ticket. Settling it ends the ticket.

-- the Start of a ticket: who asked for what, under which id, at which moment, and where it stands
pub record Started : Type 0 where
  pub who : ℕ
  pub key : Key
  pub id : Option (List ℕ)
  pub since : ℕ
  pub at : ℕ

-- the first Start of the ticket, where the list begins at this position
abbrev pub start_from : ℕ → List Event → ℕ → Option Started
start_from at [] t = None
start_from at (Start who ticket key id now ∷ rest) t = if ticket == t then Some (record { who = who; key = key; id = id; since = now; at = at }) else start_from (at + 1) rest t
start_from at (other ∷ rest) t = start_from (at + 1) rest t

-- the Start of the ticket
abbrev pub start_of : List Event → ℕ → Option Started
start_of J t = start_from 0 J t

abbrev pub is_start : Event → Bool
is_start (Start who ticket key id now) = true
is_start other = false

-- the number of Starts, which is the next ticket
abbrev pub starts : List Event → ℕ
starts J = count_by is_start J

-- the event settles the ticket
abbrev pub settles : ℕ → Event → Bool
settles t (Settle who ticket got out) = ticket == t
settles t other = false

-- the ticket has a Start and no Settle
pub record IsOpen (J : List Event) (t : ℕ) (s : Started) : Type 0 where
  pub started : start_of J t ≡ Some s
  pub unsettled : list_any (settles t) J ≡ false

-- a Start whose ticket J does not settle
abbrev pub is_pending : List Event → Event → Bool
is_pending J (Start who ticket key id now) = not (list_any (settles ticket) J)
is_pending J other = false

-- the number of open tickets. Each has room reserved for the event that settles it
abbrev pub reserved : List Event → ℕ
reserved J = count_by (is_pending J) J

-- PIECES. A fetch that was settled as Stored is kept (RFC 9111, section 3: storing responses).

abbrev pub stored_size : Event → ℕ
stored_size (Settle who ticket (Some got) outcome.Stored) = got.size
stored_size other = 0

-- the sizes of the Stored settles
abbrev pub bytes : List Event → ℕ
bytes J = sum_by stored_size J

-- what a Stored settle keeps, by its ticket's Start. The scope None is public, and Some id is private to that id
-- (RFC 9111, section 5.2.2.7: private)
pub record Kept : Type 0 where
  pub key : Key
  pub scope : Option (List ℕ)
  pub since : ℕ
  pub verdict : Verdict
  pub tags : Tags
  pub value : Option (List ℕ)

abbrev pub kept_by : Got → Started → Kept
kept_by got s = record {
  key = s.key;
  scope = if got.verdict.private then s.id else None;
  since = s.since;
  verdict = got.verdict;
  tags = got.tags;
  value = got.value;
}

-- what the event keeps, where it is a Stored settle
abbrev pub kept_of : List Event → Event → Option Kept
kept_of J (Settle who ticket (Some got) outcome.Stored) = option_map (kept_by got) (start_of J ticket)
kept_of J other = None

-- what is kept at a position
abbrev pub kept_at : List Event → ℕ → Option Kept
kept_at J q = option_and_then (kept_of J) (slice_get J q)

-- COVERS. An invalidation covers what is of its subgraph, type or tag (in the manner of RFC 9111, section 4.4:
-- invalidating stored responses).

-- the event is an Invalidate that covers the key and tags
abbrev pub IsCover : Event → Key → Tags → Type 0
IsCover (Invalidate who target count) key tags = Covers target key tags
IsCover other key tags = ⊥

-- what stands at p is an Invalidate that covers the key and tags
abbrev pub CoveredAt : List Event → Key → Tags → ℕ → Type 0
CoveredAt J key tags p = IsSomeAnd (slice_get J p) (λ e. IsCover e key tags)

-- the position is above i, and what stands there covers the key and tags
abbrev pub CoversAfter : List Event → ℕ → Key → Tags → ℕ → Type 0
CoversAfter J i key tags p = (i < p) × CoveredAt J key tags p

-- the greatest number with the property, or none where no number has it
abbrev pub IsLast : (ℕ → Type 0) → Option ℕ → Type 0
IsLast P None = (p : ℕ) → P p → ⊥
IsLast P (Some q) = P q × ((p : ℕ) → q < p → P p → ⊥)

-- the last position above i that covers the key and tags, or none
abbrev pub IsLastCover : List Event → ℕ → Key → Tags → Option ℕ → Type 0
IsLastCover J i key tags cover = IsLast (CoversAfter J i key tags) cover

-- HELD. q keeps k, nothing later is kept for its key and scope, and nothing later covers it (RFC 9111, section 4: of
-- several stored responses the most recent one).
pub record IsHeld (J : List Event) (q : ℕ) (k : Kept) : Type 0 where
  pub kept : kept_at J q ≡ Some k
  pub last : (p : ℕ) (m : Kept) → q < p → kept_at J p ≡ Some m → m.key ≡ k.key → m.scope ≡ k.scope → ⊥
  pub uncovered : IsLastCover J q k.key k.tags None

-- what is held at q is covered by the target
abbrev pub IsHeldUnder : List Event → Target → ℕ → Type 0
IsHeldUnder J target q = IsSomeAnd (kept_at J q) (λ k. IsHeld J q k × Covers target k.key k.tags)

-- FRESH. The lifetime is greater than the age that it came with and the time since it was asked for together (RFC 9111,
-- section 4.2: freshness, and 4.2.3: age). Lifetime and age are seconds, moments are milliseconds.

-- the milliseconds for which it is good from the moment when it was asked for
abbrev pub good_for : Kept → ℕ
good_for k = 1000 * (k.verdict.lifetime - k.verdict.age)

pub record IsFresh (k : Kept) (now : ℕ) : Type 0 where
  pub begun : k.since ≤ now
  pub good : now - k.since < good_for k

-- the milliseconds that are left
abbrev pub remaining : Kept → ℕ → ℕ
remaining k now = good_for k - (now - k.since)

-- CHOICE. What answers a lookup (RFC 9111, section 4: constructing responses from caches).

-- what is held for the key in the scope and is fresh stands at q
pub record Serves (J : List Event) (key : Key) (scope : Option (List ℕ)) (now q : ℕ) : Type 0 where
  pub kept : Kept
  pub held : IsHeld J q kept
  pub key_is : kept.key ≡ key
  pub scope_is : kept.scope ≡ scope
  pub fresh : IsFresh kept now

abbrev pub NoneServes : List Event → Key → Option (List ℕ) → ℕ → Type 0
NoneServes J key scope now = (q : ℕ) → Serves J key scope now q → ⊥

-- what serves in one scope, or none
abbrev pub IsServed : List Event → Key → Option (List ℕ) → ℕ → Option ℕ → Type 0
IsServed J key scope now None = NoneServes J key scope now
IsServed J key scope now (Some q) = Serves J key scope now q

-- the caller's own piece, else the public one, else none
abbrev pub IsChoice : List Event → Key → Option (List ℕ) → ℕ → Option ℕ → Type 0
IsChoice J key None now hit = IsServed J key None now hit
IsChoice J key (Some id) now hit = IsSomeAnd hit (Serves J key (Some id) now) ⊎ (NoneServes J key (Some id) now × IsServed J key None now hit)

-- of the numbers below n, c have the property
abbrev pub IsCount : (ℕ → Type 0) → ℕ → ℕ → Type 0
IsCount P zero c = c ≡ 0
IsCount P (suc n) c = (P n × ((d : ℕ) × IsCount P n d × (c ≡ d + 1))) ⊎ ((P n → ⊥) × IsCount P n c)
