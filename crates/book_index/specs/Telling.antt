-- Which stamps tell of a journal.
use Rattle.std.specs.Prelude.{◌≡◌, ℕ, Bool, true, false, count_by, drop, ◌<◌, ◌+◌, List, slice_get, IsSomeAnd}
use Rattle.std.specs.FinMap as map
use Rattle.cache_terms.specs.declared.keys.Target.{Target}
use Rattle.cache_terms.specs.declared.events.Event.{Event}
use Rattle.cache_terms.specs.declared.events.Event.TheVariants.{Invalidate}
use Rattle.cache_model.specs.Journal.{IsLast}
use Rattle.book_index.specs.Stamps.{Positions}

-- the event invalidates the target
abbrev pub IsVoidOf : Target → Event → Type 0
IsVoidOf target (Invalidate who named count) = named ≡ target
IsVoidOf target other = ⊥

-- the target is invalidated at p, above the horizon
abbrev pub IsVoidedAt : List Event → ℕ → Target → ℕ → Type 0
IsVoidedAt J horizon target p = (horizon < p) × IsSomeAnd (slice_get J p) (IsVoidOf target)

-- each target that is invalidated above the horizon has its last such position, and no other target has one
abbrev pub StampsTell : List Event → ℕ → Positions → Type 0
StampsTell J horizon stamps = (target : Target) → IsLast (IsVoidedAt J horizon target) (map.get stamps target)

-- the event is no invalidation
abbrev pub IsNoVoid : Event → Type 0
IsNoVoid e = (target : Target) → IsVoidOf target e → ⊥

abbrev pub is_void : Event → Bool
is_void (Invalidate who target count) = true
is_void other = false

-- the number of invalidations above the horizon
abbrev pub voids_above : List Event → ℕ → ℕ
voids_above J horizon = count_by is_void (drop (horizon + 1) J)
