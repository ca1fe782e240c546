-- What a chain of turns adds to what is seen.
use Rattle.std.specs.Prelude.{◌≡◌, ℕ, ◌==◌, if◌then◌else◌, List, [], ◌∷◌, ◌++◌, filter, drop, length}
use Rattle.cache_terms.specs.declared.events.Event.{Event}
use Rattle.cache_model.specs.Story.{who_of}
use Rattle.cache_book.specs.Calls.{Call, Answer}
use Rattle.cache_seam.specs.Seen.{Seen, Visit}
use Rattle.cache_seam.specs.Turns.{Turn, visit_of}

-- the events of one user
abbrev pub own_events : ℕ → List Event → List Event
own_events who J = filter (λ e. who_of e == who) J

-- the events that the call appended in this epoch
abbrev pub added_in : ℕ → Visit → List Event
added_in epoch v = if v.left.epoch == epoch then (if v.found.epoch == epoch then drop (length v.found.journal) v.left.journal else v.left.journal) else []

-- the events that the calls appended in this epoch
abbrev pub added_by : ℕ → List Visit → List Event
added_by epoch [] = []
added_by epoch (v ∷ vs) = added_in epoch v ++ added_by epoch vs

-- the journal of this epoch, where the cache is pinned to it
abbrev pub seen_in : ℕ → Seen → List Event
seen_in epoch c = if c.pinned == epoch then c.journal else []

abbrev pub calls_of : List Turn → List Call
calls_of [] = []
calls_of (t ∷ ts) = t.call ∷ calls_of ts

abbrev pub answers_of : List Turn → List Answer
answers_of [] = []
answers_of (t ∷ ts) = t.answer ∷ answers_of ts

abbrev pub visits_of : List Turn → List Visit
visits_of [] = []
visits_of (t ∷ ts) = visit_of t ∷ visits_of ts

-- the journal has each that a turn left in this epoch as a prefix
abbrev pub AreFronts : ℕ → List Turn → List Event → Type 0
AreFronts epoch [] journal = Unit {0}
AreFronts epoch (t ∷ ts) journal = (t.left.epoch ≡ epoch → (more : List Event) × (journal ≡ t.left.journal ++ more)) × AreFronts epoch ts journal
