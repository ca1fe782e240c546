-- What contracts see of a member.
use Rattle.std.specs.List.{Contains}
use Rattle.std.specs.Prelude.{◌≡◌, ℕ, zero, suc, ◌*◌, ◌<◌, length, ◌≤◌, All, List, [], ◌∷◌, ◌++◌, Option, None}
use Rattle.atomic_table.specs.declared.shared.Seat.{Seat}
use Rattle.atomic_table.specs.Seated.{TableId}
use Rattle.turn_lock.specs.declared.seats.Turn.{Turn}
use Rattle.turn_lock.specs.declared.seats.Part.{Part}
use Rattle.turn_lock.specs.declared.seats.Stage.{Stage}
use Rattle.turn_lock.specs.declared.seats.Stage.TheVariants.{Outside, Waiting, Inside}
use Rattle.turn_lock.specs.declared.seats.Knows.{Knows}
use Rattle.turn_lock.specs.Turns.{IsAt, part_of, turn_of}

-- a member: its lock, its number, the state that it last left (or the opening state), its turns, and whether it is in turn
pub record MemberState (S : Type 0) : Type 0 where
  pub home : TableId
  pub number : ℕ
  pub last : S
  pub turns : List (Turn S)
  pub stage : Stage S

-- members that are joined: their lock, and what each did
pub record Gathered (S : Type 0) : Type 0 where
  pub home : TableId
  pub parts : List (Part S)

module _ {S : Type 0} where
  -- the first part, or one that stands in
  abbrev pub first_part : S → List (Part S) → Part S
  first_part x [] = part_of 0 x []
  first_part x (p ∷ ps) = p

  abbrev pub member_state : S → Seat (Option S) (Knows S) → ℕ → MemberState S
  member_state x seat n = record { home = seat.table_id; number = n; last = (first_part x seat.me.0.parts).last; turns = (first_part x seat.me.0.parts).turns; stage = seat.me.0.stage }

  -- the slot is out with a seat in turn, and empty
  abbrev pub Holds : List (ℕ × Option S) → Stage S → Type 0
  Holds cs Outside = cs ≡ []
  Holds cs (Waiting t) = ⊥
  Holds cs (Inside t x) = cs ≡ (0, None) ∷ []

  pub record IsMember (z : TableId) (x : S) (seat : Seat (Option S) (Knows S)) (n entries : ℕ) : Type 0 where
    pub table : IsAt z seat.table_id
    pub one : seat.me.0.parts ≡ part_of n (first_part x seat.me.0.parts).last (first_part x seat.me.0.parts).turns ∷ []
    pub draws : seat.me.0.draws ≡ entries
    pub few : entries ≤ 72057594037927936
    pub slot : Holds seat.me.1 seat.me.0.stage

  -- the member came in at the ticket t, and found x
  abbrev pub entered : MemberState S → ℕ → S → MemberState S
  entered m t x = record m { stage = Inside t x }

  -- its turn is over, and it left y
  abbrev pub left : MemberState S → ℕ → S → S → MemberState S
  left m t x y = record m { last = y; turns = m.turns ++ turn_of t x y ∷ []; stage = Outside }

  -- a member that did nothing yet
  abbrev pub newcomer : TableId → S → ℕ → MemberState S
  newcomer z x n = record { home = z; number = n; last = x; turns = []; stage = Outside }

  -- the members 0 to n - 1
  abbrev pub newcomers : TableId → S → ℕ → List (MemberState S)
  newcomers z x zero = []
  newcomers z x (suc n) = newcomers z x n ++ newcomer z x n ∷ []

  -- all are members of this lock, and outside
  abbrev pub AreOutside : TableId → List (MemberState S) → Type 0
  AreOutside z ms = All (λ (m : MemberState S). m.stage ≡ Outside × m.home ≡ z) ms

  abbrev pub part_for : MemberState S → Part S
  part_for m = part_of m.number m.last m.turns

  -- all turns of these members
  abbrev pub turns_of : List (MemberState S) → List (Turn S)
  turns_of [] = []
  turns_of (m ∷ ms) = m.turns ++ turns_of ms

  -- what the members did, the last first
  abbrev pub backwards : List (MemberState S) → List (Part S)
  backwards [] = []
  backwards (m ∷ ms) = backwards ms ++ part_for m ∷ []

  -- the seat has taken in others, and is outside
  pub record IsGathered (z : TableId) (seat : Seat (Option S) (Knows S)) : Type 0 where
    pub table : IsAt z seat.table_id
    pub some : 0 < length seat.me.0.parts
    pub outside : seat.me.0.stage ≡ Outside
    pub slot : seat.me.1 ≡ []
    pub few : seat.me.0.draws ≤ length seat.me.0.parts * 72057594037927936

  -- of two turns the one with the greater serving number found a state that follows the one that the other left
  abbrev pub InOrder : (S → S → Type 0) → List (Turn S) → Type 0
  InOrder Follows ts = (a b : Turn S) → Contains ts a → Contains ts b → a.serving < b.serving → Follows a.left b.entered
