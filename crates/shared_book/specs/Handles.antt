-- What contracts see of a handle.
use Rattle.std.specs.Prelude.{◌≡◌, ℕ, zero, suc, ◌==◌, ◌<◌, Bool, true, false, if◌then◌else◌, List, [], ◌∷◌, ◌++◌, map, All, Some}
use Rattle.atomic_table.specs.Seated.{TableId}
use Rattle.turn_lock.specs.declared.seats.Turn.{Turn}
use Rattle.turn_lock.specs.declared.seats.Stage.TheVariants.{Outside}
use Rattle.turn_lock.specs.Members.{MemberState}
use Rattle.cache_terms.specs.declared.events.Event.{Event}
use Rattle.cache_model.specs.State.{State, opened}
use Rattle.shared_book.specs.Sharing.{Shared}
use Rattle.cache_model.specs.Story.{Without, By}
use Rattle.cache_book.specs.Permits.{Pinned}
use Rattle.cache_seam.specs.Chains.{own_events, added_by}
use Rattle.cache_seam.specs.Seen.{Seen, Visit, IsCoherent, pass_of}

-- its lock, its number, its pin, the state that it last left, and its turns with their serving numbers
pub record HandleState : Type 0 where
  pub home : TableId
  pub number : ℕ
  pub pinned : ℕ
  pub begun : Bool
  pub left : Shared
  pub turns : List (Turn Shared)

abbrev pub held : MemberState Shared → ℕ → Bool → HandleState
held m pinned begun = record { home = m.home; number = m.number; pinned = pinned; begun = begun; left = m.last; turns = m.turns }

-- the name of a lock with so many members, as a list of numbers
abbrev pub name_of : ℕ → TableId → List ℕ
name_of members z = members ∷ z.words ∷ z.slots ∷ z.views_name ∷ z.atom ∷ z.block ∷ z.offset ∷ z.slot_names

abbrev pub visited : Turn Shared → Visit
visited t = record { found = t.entered.book; left = t.left.book }

-- the journal of this epoch as the turns saw it last, where it was J before them
abbrev pub last_seen : ℕ → List Event → List (Turn Shared) → List Event
last_seen epoch J [] = J
last_seen epoch J (t ∷ ts) = last_seen epoch (if t.left.book.epoch == epoch then t.left.book.journal else J) ts

-- a handle as a cache: it is not alone, and tells its trace
abbrev pub seen_of : HandleState → Seen
seen_of h = record {
  number = h.number;
  pinned = h.pinned;
  begun = h.begun;
  journal = last_seen h.pinned [] h.turns;
  left = h.left.book;
  home = name_of h.left.members h.home;
  lone = false;
  trace = Some (map visited h.turns);
}

-- from a to b the turns of k were taken: each finds nothing new of k, and leaves events of k alone
abbrev pub Chained : ℕ → State → List (Turn Shared) → State → Type 0
Chained k a [] b = a ≡ b
Chained k a (t ∷ ts) b = Without a t.entered.book k × By t.entered.book t.left.book k × Chained k t.left.book ts b

pub record IsHandle (m : MemberState Shared) (pass : Pinned) (pinned : ℕ) (begun : Bool) : Type 0 where
  pub outside : m.stage ≡ Outside
  pub coherent : IsCoherent (seen_of (held m pinned begun))
  pub chained : Chained m.number (opened m.last.book.limits 0) m.turns m.last.book
  pub numbered : m.number < m.last.members
  pub pass_is : begun ≡ true → pass ≡ pass_of (seen_of (held m pinned begun))

-- a handle that did nothing yet is pinned to epoch 0
abbrev pub fresh : MemberState Shared → HandleState
fresh m = held m 0 true

-- the passes of the members 0 to n - 1, who have not begun
abbrev pub passes_of : ℕ → ℕ → List Pinned
passes_of epoch zero = []
passes_of epoch (suc n) = passes_of epoch n ++ record { who = n; epoch = epoch } ∷ []

-- all turns of these handles
abbrev pub all_turns : List HandleState → List (Turn Shared)
all_turns [] = []
all_turns (h ∷ hs) = h.turns ++ all_turns hs

-- the handles are of one book
abbrev pub AreOfOneBook : List HandleState → Type 0
AreOfOneBook hs = (home : List ℕ) × All (λ (h : HandleState). (seen_of h).home ≡ home) hs

-- the state goes on from what the handle left, with nothing of its number added
abbrev pub Continues : State → HandleState → Type 0
Continues s h = Without (seen_of h).left s (seen_of h).number

-- in the epoch of the state the events of the handle's number are those that its turns appended, once and in order
abbrev pub HasOwnEvents : State → HandleState → Type 0
HasOwnEvents s h = own_events h.number s.journal ≡ added_by s.epoch (map visited h.turns)

-- how many handles a book of this name has
abbrev pub members_of : List ℕ → ℕ
members_of [] = 0
members_of (n ∷ name) = n

-- the book has a handle k, and where it is among these it left this state
abbrev pub IsLeftBy : ℕ → State → List HandleState → Type 0
IsLeftBy k s hs = All (λ (h : HandleState).
    (k < members_of (seen_of h).home) × ((seen_of h).number ≡ k → (seen_of h).left ≡ s)) hs
