-- Serves private clauses and proofs alone: what the scans of a journal say.
use Rattle.std.specs.Prelude.{◌≡◌, ℕ, List, IsSomeAnd, Option}
use Rattle.std.specs.Option.{option_map}
use Rattle.cache_terms.specs.declared.keys.Key.{Key}
use Rattle.cache_terms.specs.declared.events.Event.{Event}
use Rattle.plain_book.specs.declared.scan.StartRef.{StartRef}
use Rattle.plain_book.specs.declared.scan.KeptRef.{KeptRef}
use Rattle.cache_model.specs.Journal.{Started, Kept, kept_by, kept_at, IsFresh}

-- what the references point to
abbrev pub start_shown : StartRef → Started
start_shown s = record { who = s.who; key = s.key.now; id = s.id.now; since = s.since; at = s.at }

abbrev pub start_seen : Option StartRef → Option Started
start_seen o = option_map start_shown o

abbrev pub kept_shown : KeptRef → Kept
kept_shown k = kept_by k.got.now (start_shown k.start)

abbrev pub kept_seen : Option KeptRef → Option Kept
kept_seen o = option_map kept_shown o

-- a piece of this key and scope is kept at q
abbrev pub IsKeptFor : List Event → Key → Option (List ℕ) → ℕ → Type 0
IsKeptFor J key scope q = IsSomeAnd (kept_at J q) (λ k. (k.key ≡ key) × (k.scope ≡ scope))

-- what is kept at the position is fresh
abbrev pub IsGoodAt : List Event → ℕ → ℕ → Type 0
IsGoodAt J now q = IsSomeAnd (kept_at J q) (λ k. IsFresh k now)
