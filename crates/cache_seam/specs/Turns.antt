-- What one call on a cache does, and what a chain of calls does.
use Rattle.std.specs.Prelude.{◌≡◌, ℕ, ◌==◌, Bool, true, false, if◌then◌else◌, List, [], ◌∷◌, ◌++◌, All}
use Rattle.std.specs.Option.{option_map}
use Rattle.cache_model.specs.State.{State}
use Rattle.cache_model.specs.Story.{Without}
use Rattle.cache_book.specs.Calls.{Call, Answer, Step, MayCall, Begin, Look, Settle, Invalidate, Tally}
use Rattle.cache_seam.specs.Objects.{KeepsObjects, CallOffersObject, HasObject}
use Rattle.cache_seam.specs.Seen.{Seen, Visit, IsCoherent, pass_of}

-- one call: the state that it found, what was asked and answered, and the state that it left
pub record Turn : Type 0 where
  pub found : State
  pub call : Call
  pub answer : Answer
  pub left : State

abbrev pub visit_of : Turn → Visit
visit_of t = record { found = t.found; left = t.left }

-- begin pins to the epoch that it leaves, and so does an invalidation
abbrev pub pinned_after : Call → (pinned left : ℕ) → ℕ
pinned_after (Begin who) pinned left = left
pinned_after (Invalidate who target) pinned left = left
pinned_after (Look pass id asks now) pinned left = pinned
pinned_after (Settle permit report) pinned left = pinned
pinned_after Tally pinned left = pinned

-- an invalidation gives no leave to look
abbrev pub begun_after : Call → Bool → Bool
begun_after (Begin who) begun = true
begun_after (Invalidate who target) begun = false
begun_after (Look pass id asks now) begun = begun
begun_after (Settle permit report) begun = begun
begun_after Tally begun = begun

-- what is seen after a turn: the journal seen is that of the state left wherever this has the pinned epoch
abbrev pub seen_after : Seen → Turn → Seen
seen_after c t =
    let pinned = pinned_after t.call c.pinned t.left.epoch in
    record {
      number = c.number;
      pinned = pinned;
      begun = begun_after t.call c.begun;
      journal = if t.left.epoch == pinned then t.left.journal else c.journal;
      left = t.left;
      home = c.home;
      lone = c.lone;
      trace = option_map (λ visits. visits ++ visit_of t ∷ []) c.trace;
    }

-- the call is made under the number and the pass of the cache
abbrev pub IsOwnCall : Seen → Call → Type 0
IsOwnCall c (Begin who) = who ≡ c.number
IsOwnCall c (Look pass id asks now) = (pass ≡ pass_of c) × (c.begun ≡ true)
IsOwnCall c (Settle permit report) = permit.who ≡ c.number
IsOwnCall c (Invalidate who target) = who ≡ c.number
IsOwnCall c Tally = Unit {0}

-- a turn that the cache can take: the state found goes on from the one that it left, without an event of its own; who is
-- alone finds what it left; and from there a step is made
pub record IsTurn (c : Seen) (t : Turn) : Type 0 where
  pub before : IsCoherent c
  pub own : IsOwnCall c t.call
  pub goes_on : Without c.left t.found c.number
  pub alone : c.lone ≡ true → t.found ≡ c.left
  pub found_lawful : KeepsObjects t.found
  pub may : MayCall t.found t.call
  pub offers : CallOffersObject t.call
  pub step : Step t.found t.call t.answer t.left
  pub after : IsCoherent (seen_after c t)

-- one call on the cache: a turn with this call and this answer
pub record Calls (old : Seen) (call : Call) (answer : Answer) (new : Seen) : Type 0 where
  pub turn : Turn
  pub call_is : turn.call ≡ call
  pub answer_is : turn.answer ≡ answer
  pub is_turn : IsTurn old turn
  pub after : new ≡ seen_after old turn

-- CHAINS

-- what is seen after the turns
abbrev pub seen_after_all : Seen → List Turn → Seen
seen_after_all c [] = c
seen_after_all c (t ∷ ts) = seen_after_all (seen_after c t) ts

-- the cache can take the turns, one after another
abbrev pub AreTurns : Seen → List Turn → Type 0
AreTurns c [] = Unit {0}
AreTurns c (t ∷ ts) = IsTurn c t × AreTurns (seen_after c t) ts

-- from old to new the turns were taken, and no others
pub record TakesTurns (old : Seen) (turns : List Turn) (new : Seen) : Type 0 where
  pub are_turns : AreTurns old turns
  pub after : new ≡ seen_after_all old turns

-- the states that the turns found and left keep texts of JSON objects alone
abbrev pub KeepObjects : List Turn → Type 0
KeepObjects [] = Unit {0}
KeepObjects (t ∷ ts) = All HasObject t.found.journal × All HasObject t.left.journal × KeepObjects ts
