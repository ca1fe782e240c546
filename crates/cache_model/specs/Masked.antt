-- The journal as one caller may know it: other callers' own pieces were never kept.
use Rattle.std.specs.Prelude.{ℕ, Bool, true, false, not, if◌then◌else◌, List, map, Option, Some, None}
use Rattle.std.specs.Str.{bytes_eq}
use Rattle.std.specs.Option.{option_map_or}
use Rattle.cache_terms.specs.declared.events.Event.{Event}
use Rattle.cache_terms.specs.declared.events.Event.TheVariants.{Lookup, Start, Settle, Invalidate}
use Rattle.cache_terms.specs.declared.events.Outcome.TheVariants as outcome
use Rattle.cache_model.specs.Journal.{kept_of}

-- the scope is that of another caller than the one with this id
abbrev pub is_foreign : Option (List ℕ) → Option (List ℕ) → Bool
is_foreign id None = false
is_foreign None (Some owner) = true
is_foreign (Some id) (Some owner) = not (bytes_eq id owner)

-- what the event keeps is another caller's own
abbrev pub keeps_foreign : List Event → Option (List ℕ) → Event → Bool
keeps_foreign J id e = option_map_or (λ k. is_foreign id k.scope) (kept_of J e) false

-- a fetch whose piece is another caller's own counts as failed
abbrev pub masked_event : List Event → Option (List ℕ) → Event → Event
masked_event J id (Settle who ticket got out) = if keeps_foreign J id (Settle who ticket got out) then Settle who ticket None outcome.Failed else Settle who ticket got out
masked_event J id (Lookup who key other now hit) = Lookup who key other now hit
masked_event J id (Start who ticket key other now) = Start who ticket key other now
masked_event J id (Invalidate who target count) = Invalidate who target count

-- the journal without what other callers alone may be given (RFC 9111, section 5.2.2.7: private)
abbrev pub masked : List Event → Option (List ℕ) → List Event
masked J id = map (masked_event J id) J
