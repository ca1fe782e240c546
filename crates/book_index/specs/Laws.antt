-- The laws that tie stamps and positions to a journal. Each is the contract of a function of its name.
use Rattle.std.specs.Prelude.{◌≡◌, ◌↔◌, ℕ, ◌+◌, ◌<◌, ◌≤◌, true, false, nat_eq, List, [], ◌∷◌, ◌++◌, length, Option}
use Rattle.std.specs.List.{list_any, IsDistinct}
use Rattle.std.specs.FinMap as map
use Rattle.cache_terms.specs.declared.keys.Key.{Key}
use Rattle.cache_terms.specs.declared.keys.Target.{Target}
use Rattle.cache_terms.specs.declared.tags.Tags.{Tags}
use Rattle.cache_terms.specs.declared.events.Event.{Event}
use Rattle.cache_terms.specs.declared.events.Event.TheVariants.{Invalidate}
use Rattle.cache_model.specs.Journal.{IsLast, IsLastCover, IsCount, IsHeldUnder}
use Rattle.book_index.specs.Stamps.{Positions, above, IsPruned, IsNotedFor}
use Rattle.book_index.specs.Telling.{StampsTell, IsNoVoid, voids_above}

-- no stamps tell of a journal that has no position above the horizon
abbrev pub NoStampsTell : Type 0
NoStampsTell = (J : List Event) (horizon : ℕ) → length J ≤ horizon + 1 → StampsTell J horizon map.empty

-- an event that is no invalidation leaves the stamps telling
abbrev pub StampsOutliveEvents : Type 0
StampsOutliveEvents = (J : List Event) (e : Event) (horizon : ℕ) (stamps : Positions)
    → IsNoVoid e → StampsTell J horizon stamps → StampsTell (J ++ e ∷ []) horizon stamps

-- an invalidation that is noted leaves the stamps telling
abbrev pub NotedStampsTell : Type 0
NotedStampsTell = (J : List Event) (who : ℕ) (target : Target) (count horizon : ℕ) (stamps : Positions)
    → horizon < length J → StampsTell J horizon stamps → StampsTell (J ++ Invalidate who target count ∷ []) horizon (map.insert stamps target (length J))

-- stamps that are pruned tell of what is above the later horizon
abbrev pub PrunedStampsTell : Type 0
PrunedStampsTell = (J : List Event) (horizon later : ℕ) (old new : Positions)
    → horizon ≤ later → IsPruned later old new → StampsTell J horizon old → StampsTell J later new

-- the last stamp is the last cover where it is above the Start, and where it is not there is none
abbrev pub LastStampIsLastCover : Type 0
LastStampIsLastCover = (J : List Event) (horizon : ℕ) (stamps : Positions) → StampsTell J horizon stamps
    → (start : ℕ) → horizon ≤ start → (key : Key) (tags : Tags) (last : Option ℕ) → IsLast (IsNotedFor stamps key tags) last → IsLastCover J start key tags (above start last)

-- there are at most as many stamps as invalidations above the horizon
abbrev pub StampsAreFew : Type 0
StampsAreFew = (J : List Event) (horizon : ℕ) (stamps : Positions) → StampsTell J horizon stamps → map.len stamps ≤ voids_above J horizon

-- positions that are those of the held pieces under a target, each once, are as many as an invalidation of it counts
abbrev pub ListedIsCount : Type 0
ListedIsCount = (J : List Event) (target : Target) (positions : List ℕ) → IsDistinct nat_eq positions
    → ((q : ℕ) → (list_any (nat_eq q) positions ≡ true) ↔ IsHeldUnder J target q) → IsCount (IsHeldUnder J target) (length J) (length positions)

-- where one position is taken out from under a target, one fewer stands there
abbrev pub RemovedIsFewer : Type 0
RemovedIsFewer = (n : ℕ) (old new : List ℕ) (position : ℕ) → IsDistinct nat_eq old → IsDistinct nat_eq new → ((q : ℕ) → list_any (nat_eq q) old ≡ true → q < n)
    → list_any (nat_eq position) old ≡ true → list_any (nat_eq position) new ≡ false → ((q : ℕ) → (q ≡ position → ⊥) → list_any (nat_eq q) new ≡ list_any (nat_eq q) old)
    → length new + 1 ≡ length old
