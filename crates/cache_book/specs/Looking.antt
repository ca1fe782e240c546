-- What a look answers and leaves.
use Rattle.std.specs.Prelude.{◌≡◌, ℕ, ◌+◌, ◌-◌, ◌*◌, ◌^◌, ◌<◌, ◌≤◌, ◌==◌, nat_lt, min, not, Bool, List, [], ◌∷◌, ◌++◌, length, map, is_some, if◌then◌else◌, Option, Some, None}
use Rattle.cache_terms.specs.declared.keys.Key.{Key}
use Rattle.cache_terms.specs.declared.events.Event.{Event}
use Rattle.cache_terms.specs.declared.events.Event.TheVariants.{Lookup, Start}
use Rattle.cache_terms.specs.declared.events.Mark.{Mark}
use Rattle.cache_terms.specs.declared.events.Mark.TheVariants as mark
use Rattle.cache_terms.specs.Keys.{key_bytes}
use Rattle.cache_book.specs.declared.found.Found.{Found}
use Rattle.cache_book.specs.declared.found.Found.TheVariants as found
use Rattle.cache_model.specs.Journal.{Kept, kept_at, remaining, starts, reserved, IsChoice}
use Rattle.cache_model.specs.State.{State}
use Rattle.cache_book.specs.Permits.{Pinned, Granted}

-- the permit for an ask of this pass
abbrev pub granted : Pinned → Option (List ℕ) → Mark → Key → Granted
granted pass id m key = record { who = pass.who; epoch = pass.epoch; mark = m; key = key; named = is_some id }

-- a hit: the chosen piece, and a Lookup that says so
pub record IsHit (pass : Pinned) (id : Option (List ℕ)) (now : ℕ) (key : Key) (J : List Event) (lookup stored : ℕ) (value : List ℕ) (left_ms : ℕ) (private : Bool) (K : List Event) : Type 0 where
  pub narrow : key_bytes key ≤ 16384
  pub choice : IsChoice J key id now (Some stored)
  pub kept : Kept
  pub kept_is : kept_at J stored ≡ Some kept
  pub lookup_is : lookup ≡ length J
  pub value_is : kept.value ≡ Some value
  pub left_is : left_ms ≡ remaining kept now
  pub private_is : private ≡ kept.verdict.private
  pub after : K ≡ J ++ Lookup pass.who key id now (Some stored) ∷ []

-- a miss: nothing can be chosen, and a Lookup is followed by a Start with the next ticket
pub record IsMiss (pass : Pinned) (id : Option (List ℕ)) (now : ℕ) (key : Key) (J : List Event) (lookup : ℕ) (permit : Granted) (K : List Event) : Type 0 where
  pub narrow : key_bytes key ≤ 16384
  pub choice : IsChoice J key id now None
  pub lookup_is : lookup ≡ length J
  pub permit_is : permit ≡ granted pass id (mark.Ticket (starts J)) key
  pub after : K ≡ J ++ Lookup pass.who key id now None ∷ Start pass.who (starts J) key id now ∷ []

-- a key that is too long goes past the journal
pub record IsTooWide (pass : Pinned) (id : Option (List ℕ)) (key : Key) (J : List Event) (permit : Granted) (K : List Event) : Type 0 where
  pub wide : 16384 < key_bytes key
  pub permit_is : permit ≡ granted pass id (mark.Wide (min (key_bytes key) (2 ^ 64 - 1)) 16384) key
  pub after : K ≡ J

-- from the journal J an ask has this answer and leaves K
abbrev pub Asked : Pinned → Option (List ℕ) → ℕ → Key → List Event → Found → List Event → Type 0
Asked pass id now key J (found.Hit lookup stored value left_ms private) K = IsHit pass id now key J lookup stored value left_ms private K
Asked pass id now key J (found.Miss lookup permit) K = IsMiss pass id now key J lookup permit K
Asked pass id now key J (found.Bypass permit) K = IsTooWide pass id key J permit K

-- the asks have these answers, one after another
abbrev pub AskedAll : Pinned → Option (List ℕ) → ℕ → List Key → List Event → List Found → List Event → Type 0
AskedAll pass id now [] J [] K = K ≡ J
AskedAll pass id now (key ∷ keys) J (answer ∷ answers) K = (M : List Event) × Asked pass id now key J answer M × AskedAll pass id now keys M answers K
AskedAll pass id now [] J (answer ∷ answers) K = ⊥
AskedAll pass id now (key ∷ keys) J [] K = ⊥

-- why a whole look goes past the journal, if it does
abbrev pub bypass_mark : State → Pinned → ℕ → Option Mark
bypass_mark s pass asks =
    if s.epoch == 2 ^ 64 - 1 then Some mark.Retired
    else (if not (pass.epoch == s.epoch) then Some (mark.Over pass.epoch s.epoch)
    else (if nat_lt s.limits.events (length s.journal + reserved s.journal + 3 * asks) then Some (mark.Full (length s.journal) (reserved s.journal) (min (3 * asks) (2 ^ 64 - 1)) s.limits.events)
    else None))

abbrev pub bypassed : Pinned → Option (List ℕ) → Mark → List Key → List Found
bypassed pass id m asks = map (λ key. found.Bypass (granted pass id m key)) asks

abbrev pub LooksBy : Option Mark → State → Pinned → Option (List ℕ) → List Key → ℕ → List Found → State → Type 0
LooksBy (Some m) old pass id asks now answers new = (answers ≡ bypassed pass id m asks) × (new ≡ old)
LooksBy None old pass id asks now answers new = AskedAll pass id now asks old.journal answers new.journal × (new ≡ record old { journal = new.journal })

-- what a look answers and leaves
abbrev pub Looks : State → Pinned → Option (List ℕ) → List Key → ℕ → List Found → State → Type 0
Looks old pass id asks now answers new = LooksBy (bypass_mark old pass (length asks)) old pass id asks now answers new
