-- What references into a journal point to.
use Rattle.std.specs.Prelude.{ℕ, List, slice_get, IsSomeAnd, Option, Some, None}
use Rattle.std.specs.Option.{option_map, option_and_then}
use Rattle.cache_terms.specs.declared.events.Event.{Event}
use Rattle.cache_terms.specs.declared.events.Event.TheVariants.{Start}
use Rattle.book_tables.specs.declared.refs.StartRef.{StartRef}
use Rattle.book_tables.specs.declared.refs.KeptRef.{KeptRef}
use Rattle.cache_model.specs.Journal.{Started, Kept, kept_by, kept_at, IsFresh}

-- the Start that the references give
abbrev pub start_shown : StartRef → Started
start_shown s = record { who = s.who; key = s.key.now; id = s.id.now; since = s.since; at = s.at }

abbrev pub start_seen : Option StartRef → Option Started
start_seen o = option_map start_shown o

-- the Start that an event is, where it stands at this position
abbrev pub start_by : ℕ → Event → Option Started
start_by at (Start who ticket key id now) = Some (record { who = who; key = key; id = id; since = now; at = at })
start_by at other = None

-- the Start at a position
abbrev pub start_at : List Event → ℕ → Option Started
start_at J at = option_and_then (start_by at) (slice_get J at)

-- the piece that the references give
abbrev pub kept_shown : KeptRef → Kept
kept_shown k = kept_by k.got.now (start_shown k.start)

abbrev pub kept_seen : Option KeptRef → Option Kept
kept_seen o = option_map kept_shown o

-- what is kept at the position is fresh
abbrev pub IsGoodAt : List Event → ℕ → ℕ → Type 0
IsGoodAt J now q = IsSomeAnd (kept_at J q) (λ k. IsFresh k now)
