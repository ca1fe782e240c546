-- The laws of journals, and of states that come after one another. Each is the contract of a function of its name.
use Rattle.std.specs.Prelude.{◌≡◌, ◌≢◌, ◌↔◌, ℕ, ◌+◌, ◌≤◌, List, [], length, Option}
use Rattle.cache_terms.specs.declared.keys.Key.{Key}
use Rattle.cache_terms.specs.declared.keys.Target.{Target}
use Rattle.cache_terms.specs.declared.events.Event.{Event}
use Rattle.cache_terms.specs.declared.events.Got.{Got}
use Rattle.cache_terms.specs.declared.events.Limits.{Limits}
use Rattle.cache_terms.specs.declared.events.Outcome.{Outcome}
use Rattle.cache_terms.specs.declared.events.Outcome.TheVariants as outcome
use Rattle.cache_model.specs.Journal.{Started, bytes, reserved, IsChoice, IsCount, IsHeldUnder}
use Rattle.cache_model.specs.Legal.{IsDue, IsLegal}
use Rattle.cache_model.specs.Masked.{masked}
use Rattle.cache_model.specs.State.{State}
use Rattle.cache_model.specs.Story.{Follows, Without, By}

-- a lookup has one choice
abbrev pub ChoiceIsUnique : Type 0
ChoiceIsUnique = (J : List Event) (key : Key) (id : Option (List ℕ)) (now : ℕ) (a b : Option ℕ)
    → IsChoice J key id now a → IsChoice J key id now b → a ≡ b

-- other callers' own pieces change no choice
abbrev pub ChoiceIsMasked : Type 0
ChoiceIsMasked = (J : List Event) (key : Key) (id : Option (List ℕ)) (now : ℕ) (hit : Option ℕ)
    → IsChoice J key id now hit ↔ IsChoice (masked J id) key id now hit

-- one outcome is due, but for want of memory
abbrev pub OutcomeIsUnique : Type 0
OutcomeIsUnique = (limits : Limits) (J : List Event) (s : Started) (got : Option Got) (a b : Outcome)
    → a ≢ outcome.Memory → b ≢ outcome.Memory → IsDue limits J s got a → IsDue limits J s got b → a ≡ b

-- an invalidation covers one number of held pieces
abbrev pub CountIsUnique : Type 0
CountIsUnique = (J : List Event) (target : Target) (c d : ℕ)
    → IsCount (IsHeldUnder J target) (length J) c → IsCount (IsHeldUnder J target) (length J) d → c ≡ d

-- the journal of an epoch that begins is legal
abbrev pub EmptyIsLegal : Type 0
EmptyIsLegal = (limits : Limits) → IsLegal limits []

-- the events and the open tickets together have their room
abbrev pub LegalHasRoom : Type 0
LegalHasRoom = (limits : Limits) (J : List Event) → IsLegal limits J → length J + reserved J ≤ limits.events

-- and so have the bytes
abbrev pub LegalHasBytes : Type 0
LegalHasBytes = (limits : Limits) (J : List Event) → IsLegal limits J → bytes J ≤ limits.bytes

-- a state follows itself
abbrev pub FollowsRefl : Type 0
FollowsRefl = (a : State) → Follows a a

-- what follows a later state follows the earlier one
abbrev pub FollowsTrans : Type 0
FollowsTrans = (a b c : State) → Follows a b → Follows b c → Follows a c

-- a state adds nothing to itself
abbrev pub WithoutRefl : Type 0
WithoutRefl = (k : ℕ) (a : State) → Without a a k

-- where a caller adds nothing twice, it adds nothing
abbrev pub WithoutTrans : Type 0
WithoutTrans = (k : ℕ) (a b c : State) → Without a b k → Without b c k → Without a c k

-- a state without a caller's events follows
abbrev pub WithoutFollows : Type 0
WithoutFollows = (k : ℕ) (a b : State) → Without a b k → Follows a b

-- a state by one caller follows
abbrev pub ByFollows : Type 0
ByFollows = (k : ℕ) (a b : State) → By a b k → Follows a b

-- a state by one caller is without each other
abbrev pub ByWithout : Type 0
ByWithout = (j k : ℕ) (a b : State) → By a b k → j ≢ k → Without a b j
