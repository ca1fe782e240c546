-- A legal journal stays legal.
use Rattle.std.proofs.Common.{◌≡◌, ◌⊎◌, inl, inr, ℕ, zero, suc, ◌+◌, ◌<◌, ◌≤◌, List, [], ◌∷◌, ◌++◌, length, take, slice_get, get_or, Option, Some, None, ap, sym, ◌∙◌, arith, subst, add-one, length-append}
use Rattle.std.proofs.lemmas.List.{take_more, append-nil}
use Rattle.std.proofs.lemmas.Option.{slice_get_cases}
use Rattle.cache_terms.specs.declared.keys.Key.{Key}
use Rattle.cache_terms.specs.declared.keys.Target.{Target}
use Rattle.cache_terms.specs.declared.events.Limits.{Limits}
use Rattle.cache_terms.specs.declared.events.Event.{Event}
use Rattle.cache_terms.specs.declared.events.Event.TheVariants.{Lookup, Start, Settle, Invalidate}
use Rattle.cache_terms.specs.declared.events.Got.{Got}
use Rattle.cache_terms.specs.declared.events.Outcome.{Outcome}
use Rattle.cache_model.specs.Journal.{Started, IsOpen, reserved, IsHeldUnder, IsCount}
use Rattle.cache_model.specs.Legal.{IsLegal, IsNext, EachFits, HasStart, IsDue, HasValueIfStored, HasRange}
use Rattle.cache_model.proofs.Growth.{take_all, each_push, slice_get_push, slice_get_before, reserved_settled, reserved_push}

room_front : (limits : Limits) (J : List Event) → EachFits limits J → (n : ℕ) → n ≤ length J → length (take n J) + reserved (take n J) ≤ limits.events
room_front limits J each zero le = omega arith
room_front limits J each (suc n) le = step (slice_get_cases J n)
  where
    step : (slice_get J n ≡ slice_get J n) × (((x : Event) × (n < length J) × (slice_get J n ≡ Some x) × (get_or J n x ≡ x)) ⊎ ((length J ≤ n) × (slice_get J n ≡ None))) → length (take (suc n) J) + reserved (take (suc n) J) ≤ limits.events
    step (same, inl found) =
        let x : Event = found.0 in
        let more : take (n + 1) J ≡ take n J ++ x ∷ [] = take_more J n x found.1 ∙ ap (λ (y : Event). take n J ++ y ∷ []) found.3 in
        rw (← add-one, more) (each n x found.2).room
    step (same, inr past) = absurd (omega (arith, le, past.0))

-- the events and the tickets have their room
pub room_of : (limits : Limits) (J : List Event) → EachFits limits J → length J + reserved J ≤ limits.events
room_of limits J each = subst (λ (K : List Event). length K + reserved K ≤ limits.events) (ap (take (length J)) (sym (append-nil J)) ∙ take_all J []) (room_front limits J each (length J) (omega arith))

-- the event is no Lookup without a hit
abbrev pub IsOther : Event → Type 0
IsOther e = (who : ℕ) (key : Key) (id : Option (List ℕ)) (now : ℕ) → e ≡ Lookup who key id now None → ⊥

pub started_push : (J : List Event) (e : Event) → IsOther e → ((p : ℕ) → HasStart J p) → (p : ℕ) → HasStart (J ++ e ∷ []) p
started_push J e other started p who key id now h = from (slice_get_push J (Lookup who key id now None) e p h)
  where
    from : ((p < length J) × (slice_get J p ≡ Some (Lookup who key id now None))) ⊎ ((p ≡ length J) × (e ≡ Lookup who key id now None)) → (ticket : ℕ) × (slice_get (J ++ e ∷ []) (p + 1) ≡ Some (Start who ticket key id now))
    from (inl a) = let r = started p who key id now a.1 in (r.0, slice_get_before J (e ∷ []) (Start who (r.0) key id now) (p + 1) (r.1))
    from (inr b) = absurd (other who key id now b.1)

pub settled_legal : (limits : Limits) (J : List Event) (who t : ℕ) (got : Option Got) (out : Outcome) (s : Started) → IsLegal limits J → IsOpen J t s → who ≡ s.who → IsDue limits J s got out → HasValueIfStored got out → HasRange got → IsLegal limits (J ++ Settle who t got out ∷ [])
settled_legal limits J who t got out s legal owed by due value range =
    let e : Event = Settle who t got out in
    let next : IsNext limits J e = record {
      fits = (s, owed, by, due, value, range);
      room = omega (arith, room_of limits J legal.each, reserved_settled J who t got out s owed, length-append J (e ∷ []));
    } in
    record { each = each_push limits J e legal.each next; started = started_push J e (λ w k i n h. absurd (cc h)) legal.started }

-- an Invalidate with the right count
pub voided_legal : (limits : Limits) (J : List Event) (who : ℕ) (target : Target) (count : ℕ) → IsLegal limits J → IsCount (IsHeldUnder J target) (length J) count → length J + reserved J + 1 ≤ limits.events → IsLegal limits (J ++ Invalidate who target count ∷ [])
voided_legal limits J who target count legal counted room =
    let e : Event = Invalidate who target count in
    let next : IsNext limits J e = record { fits = counted; room = omega (arith, room, reserved_push J e, length-append J (e ∷ [])) } in
    record { each = each_push limits J e legal.each next; started = started_push J e (λ w k i n h. absurd (cc h)) legal.started }

-- the empty journal is legal
pub empty_legal : (limits : Limits) → IsLegal limits []
empty_legal limits = record { each = λ p e h. absurd (cc h); started = λ p who key id now h. absurd (cc h) }
