-- What a look finds is the text of an object.
use Rattle.std.proofs.Common.{◌≡◌, ℕ, List, [], ◌∷◌, length, Option, Some, None, All, ap, sym, subst}
use Rattle.std.specs.Prelude.{slice_get, IfSome}
use Rattle.std.specs.Option.{option_map}
use Rattle.std.proofs.lemmas.Option.{slice_get_within, get_or_from_slice_get, option_and_then_some}
use Rattle.cache_terms.specs.declared.keys.Key.{Key}
use Rattle.cache_terms.specs.declared.events.Event.{Event}
use Rattle.cache_terms.specs.declared.events.Event.TheVariants as event
use Rattle.cache_terms.specs.declared.events.Got.{Got}
use Rattle.cache_terms.specs.declared.events.Mark.{Mark}
use Rattle.cache_terms.specs.declared.events.Outcome.TheVariants as outcome
use Rattle.cache_book.specs.declared.found.Found.{Found}
use Rattle.cache_book.specs.declared.found.Found.TheVariants as found
use Rattle.cache_model.specs.Journal.{Started, Kept, kept_of, kept_by, kept_at, start_of}
use Rattle.cache_model.specs.State.{State}
use Rattle.cache_book.specs.Permits.{Pinned}
use Rattle.cache_book.specs.Looking.{AskedAll, LooksBy, bypass_mark, bypassed}
use Rattle.cache_book.specs.Calls.{Look, Looked}
use Rattle.cache_seam.specs.Objects.{HasObject, IsObjectText}
use Rattle.cache_seam.specs.Seen.{Seen}
use Rattle.cache_seam.specs.Turns.{Calls}
use Rattle.cache_seam.specs.Hand.{FindObjects}
use Rattle.cache_seam.proofs.KeptObjects.{asked_objects}
use Rattle.cache_seam.proofs.Hands.{step_of}

at_place : (J : List Event) (q : ℕ) (e : Event) → All HasObject J → slice_get J q ≡ Some e → HasObject e
at_place J q e all is = subst HasObject (get_or_from_slice_get J q e e is) (all q e (slice_get_within J q e is))

by_start : (got : Got) (o : Option Started) (k : Kept) → option_map (kept_by got) o ≡ Some k → got.value ≡ k.value
by_start got None k h = absurd (cc h)
by_start got (Some s) k h = let same : kept_by got s ≡ k = cc h in ap (λ (x : Kept). x.value) same

kept_object : (J : List Event) (e : Event) (k : Kept) → HasObject e → kept_of J e ≡ Some k → IfSome k.value IsObjectText
kept_object J (event.Settle who t (Some got) outcome.Stored) k has h = subst (λ (v : Option (List ℕ)). IfSome v IsObjectText) (by_start got (start_of J t) k h) has
kept_object J (event.Settle who t None out) k has h = absurd (cc h)
kept_object J (event.Settle who t (Some got) (outcome.Void p)) k has h = absurd (cc h)
kept_object J (event.Settle who t (Some got) (outcome.NoRoom a b c)) k has h = absurd (cc h)
kept_object J (event.Settle who t (Some got) (outcome.Unstorable w)) k has h = absurd (cc h)
kept_object J (event.Settle who t (Some got) outcome.Failed) k has h = absurd (cc h)
kept_object J (event.Settle who t (Some got) (outcome.Over a b)) k has h = absurd (cc h)
kept_object J (event.Settle who t (Some got) outcome.Bypassed) k has h = absurd (cc h)
kept_object J (event.Settle who t (Some got) outcome.Memory) k has h = absurd (cc h)
kept_object J (event.Lookup who key id now hit) k has h = absurd (cc h)
kept_object J (event.Start who t key id now) k has h = absurd (cc h)
kept_object J (event.Invalidate who target count) k has h = absurd (cc h)

-- what is kept is the text of an object
pub kept_is_object : (J : List Event) (q : ℕ) (k : Kept) (v : List ℕ) → All HasObject J → kept_at J q ≡ Some k → k.value ≡ Some v → IsObjectText v
kept_is_object J q k v all is value =
    let object : IfSome k.value IsObjectText = option_and_then_some (kept_of J) (slice_get J q) k is (λ e at kept. kept_object J e k (at_place J q e all at) kept) in
    subst (λ (o : Option (List ℕ)). IfSome o IsObjectText) value object

asks_find : (pass : Pinned) (id : Option (List ℕ)) (now : ℕ) (keys : List Key) (J : List Event) (answers : List Found) (K : List Event) → AskedAll pass id now keys J answers K → All HasObject J → FindObjects answers
asks_find pass id now [] J [] K h all = tt
asks_find pass id now (k ∷ keys) J (found.Hit l q v m b ∷ answers) K h all =
    (kept_is_object J q (h.1.kept) v all (h.1.kept_is) (h.1.value_is), asks_find pass id now keys (h.0) answers K (h.2) (asked_objects pass id now k J (found.Hit l q v m b) (h.0) (h.1) all))
asks_find pass id now (k ∷ keys) J (found.Miss l p ∷ answers) K h all = asks_find pass id now keys (h.0) answers K (h.2) (asked_objects pass id now k J (found.Miss l p) (h.0) (h.1) all)
asks_find pass id now (k ∷ keys) J (found.Bypass p ∷ answers) K h all = asks_find pass id now keys (h.0) answers K (h.2) (asked_objects pass id now k J (found.Bypass p) (h.0) (h.1) all)
asks_find pass id now [] J (a ∷ answers) K h all = absurd h
asks_find pass id now (k ∷ keys) J [] K h all = absurd h

none_found : (pass : Pinned) (id : Option (List ℕ)) (m : Mark) (keys : List Key) → FindObjects (bypassed pass id m keys)
none_found pass id m [] = tt
none_found pass id m (k ∷ keys) = none_found pass id m keys

looks_find : (how : Option Mark) (old : State) (pass : Pinned) (id : Option (List ℕ)) (keys : List Key) (now : ℕ) (answers : List Found) (new : State) → LooksBy how old pass id keys now answers new → All HasObject old.journal → FindObjects answers
looks_find (Some m) old pass id keys now answers new h all = subst FindObjects (sym h.0) (none_found pass id m keys)
looks_find None old pass id keys now answers new h all = asks_find pass id now keys old.journal answers new.journal h.0 all

-- what a look on a cache finds is the text of an object
pub look_finds : (old new : Seen) (pass : Pinned) (id : Option (List ℕ)) (keys : List Key) (now : ℕ) (answers : List Found) → Calls old (Look pass id keys now) (Looked answers) new → FindObjects answers
look_finds old new pass id keys now answers h = looks_find (bypass_mark h.turn.found pass (length keys)) h.turn.found pass id keys now answers h.turn.left (step_of old new (Look pass id keys now) (Looked answers) h) h.is_turn.found_lawful.objects
