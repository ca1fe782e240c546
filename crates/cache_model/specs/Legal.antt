-- Which outcome is due to a fetch, and which journals are legal.
use Rattle.std.specs.Prelude.{◌≡◌, ◌⊎◌, ℕ, ◌+◌, ◌≤◌, true, nat_lt, if◌then◌else◌, List, [], ◌∷◌, ◌++◌, length, take, slice_get, is_some, Option, Some, None}
use Rattle.cache_terms.specs.declared.keys.Key.{Key}
use Rattle.cache_terms.specs.declared.events.Got.{Got}
use Rattle.cache_terms.specs.declared.events.Limits.{Limits}
use Rattle.cache_terms.specs.declared.events.Event.{Event}
use Rattle.cache_terms.specs.declared.events.Event.TheVariants.{Lookup, Start, Settle, Invalidate}
use Rattle.cache_terms.specs.declared.events.Outcome.{Outcome}
use Rattle.cache_terms.specs.declared.events.Outcome.TheVariants as outcome
use Rattle.cache_terms.specs.declared.reasons.Why.{Why}
use Rattle.cache_terms.specs.Offers.{why_of}
use Rattle.cache_model.specs.Journal.{Started, starts, IsOpen, reserved, bytes, IsLastCover, IsChoice, IsHeldUnder, IsCount}

-- DUE. The first that applies: it failed; there is a reason not to keep it (RFC 9111, section 3: storing responses); it
-- was covered since its Start, also by a tag that was learnt with it; there is no room for it; else it is stored. Where
-- it would be stored, want of memory may come instead.

-- the outcome where there is no such reason, with the last cover since the Start
abbrev pub due_after : Option ℕ → (stored size limit : ℕ) → Outcome
due_after (Some p) stored size limit = outcome.Void p
due_after None stored size limit = if nat_lt limit (stored + size) then outcome.NoRoom stored size limit else outcome.Stored

-- the outcome is this one, or want of memory in the place of Stored
abbrev pub IsOrMemory : (due out : Outcome) → Type 0
IsOrMemory due out = (out ≡ due) ⊎ ((due ≡ outcome.Stored) × (out ≡ outcome.Memory))

-- the outcome of a fetch that did not fail, with the reason not to keep it
abbrev pub IsDueBy : Option Why → Limits → List Event → Started → Got → Outcome → Type 0
IsDueBy (Some why) limits J s got out = out ≡ outcome.Unstorable why
IsDueBy None limits J s got out = (cover : Option ℕ) × IsLastCover J s.at s.key got.tags cover × IsOrMemory (due_after cover (bytes J) got.size limits.bytes) out

-- the outcome that is due to the ticket that s started
abbrev pub IsDue : Limits → List Event → Started → Option Got → Outcome → Type 0
IsDue limits J s None out = out ≡ outcome.Failed
IsDue limits J s (Some got) out = IsDueBy (why_of got.marks got.verdict got.tags (is_some s.id)) limits J s got out

-- LEGAL. An event fits the journal before it where it says what is so there.

-- the value is there exactly where it is stored
abbrev pub HasValueIfStored : Option Got → Outcome → Type 0
HasValueIfStored None out = Unit {0}
HasValueIfStored (Some got) outcome.Stored = is_some got.value ≡ true
HasValueIfStored (Some got) out = got.value ≡ None

-- the lifetime and the age are in their range
abbrev pub HasRange : Option Got → Type 0
HasRange None = Unit {0}
HasRange (Some got) = (got.verdict.lifetime ≤ 2147483648) × (got.verdict.age ≤ 2147483648)

-- a Lookup has the choice; a Start stands after a Lookup without a hit and has the next ticket; a Settle is of an open
-- ticket, by its caller, with the outcome that is due; an Invalidate counts the held pieces that it covers
abbrev pub Fits : Limits → List Event → Event → Type 0
Fits limits J (Lookup who key id now hit) = IsChoice J key id now hit
Fits limits J (Start who ticket key id now) = (ticket ≡ starts J) × ((K : List Event) × (J ≡ K ++ Lookup who key id now None ∷ []))
Fits limits J (Settle who ticket got out) = (s : Started) × IsOpen J ticket s × (who ≡ s.who) × IsDue limits J s got out × HasValueIfStored got out × HasRange got
Fits limits J (Invalidate who target count) = IsCount (IsHeldUnder J target) (length J) count

-- the event can come next: it fits, and leaves room for the open tickets
pub record IsNext (limits : Limits) (J : List Event) (e : Event) : Type 0 where
  pub fits : Fits limits J e
  pub room : length (J ++ e ∷ []) + reserved (J ++ e ∷ []) ≤ limits.events

-- if what stands at p is a Lookup without a hit, its Start comes next
abbrev pub HasStart : List Event → ℕ → Type 0
HasStart J p = (who : ℕ) (key : Key) (id : Option (List ℕ)) (now : ℕ) → slice_get J p ≡ Some (Lookup who key id now None)
    → (ticket : ℕ) × (slice_get J (p + 1) ≡ Some (Start who ticket key id now))

-- each event fits the journal before it
abbrev pub EachFits : Limits → List Event → Type 0
EachFits limits J = (p : ℕ) (e : Event) → slice_get J p ≡ Some e → IsNext limits (take p J) e

-- each event fits the journal before it, and each Lookup without a hit has its Start
pub record IsLegal (limits : Limits) (J : List Event) : Type 0 where
  pub each : EachFits limits J
  pub started : (p : ℕ) → HasStart J p
