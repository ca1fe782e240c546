-- Serves tests alone: a legal journal with its tables stays one.
use Rattle.std.proofs.Common.{◌≡◌, ◌⊎◌, inl, inr, ℕ, ◌+◌, ◌<◌, ◌≤◌, Bool, true, false, not, List, [], ◌∷◌, ◌++◌, length, slice_get, Option, Some, None, refl, ap, sym, ◌∙◌, arith, subst, length-append}
use Rattle.std.specs.Prelude.{if◌then◌else◌}
use Rattle.std.specs.List.{list_any}
use Rattle.std.specs.Option.{option_map}
use Rattle.std.proofs.lemmas.List.Sums.{sum_by_push}
use Rattle.std.proofs.lemmas.Option.{slice_get-get_or, same_Some}
use Rattle.cache_terms.specs.declared.keys.Key.{Key}
use Rattle.cache_terms.specs.declared.keys.Target.{Target}
use Rattle.cache_terms.specs.declared.offers.Offer.{Offer}
use Rattle.cache_terms.specs.declared.events.Limits.{Limits}
use Rattle.cache_terms.specs.declared.events.Outcome.{Outcome}
use Rattle.cache_terms.specs.declared.events.Outcome.TheVariants as outcome
use Rattle.cache_terms.specs.declared.events.Event.{Event}
use Rattle.cache_terms.specs.declared.events.Event.TheVariants.{Lookup, Start, Settle, Invalidate}
use Rattle.cache_model.specs.Journal.{Started, start_of, settles, reserved, starts, is_start, is_pending, IsChoice, IsHeldUnder, IsCount}
use Rattle.cache_model.specs.Legal.{IsLegal, IsNext, HasStart, HasValueIfStored}
use Rattle.cache_model.proofs.Growth.{each_push, slice_get_push, slice_get_before, slice_get_end, reserved_push, reserved_settled}
use Rattle.cache_model.proofs.Legality.{room_of, settled_legal, voided_legal}
use Rattle.book_tables.specs.declared.tables.Tables.{Tables}
use Rattle.book_tables.specs.Closing.{got_of, IsDueTo, IsUnsettled}
use Rattle.book_tables.specs.Shelving.{IsShelf}
use Rattle.book_tables.specs.Standing.{StandsFor, IsRegular}

-- a Lookup reserves nothing
reserved_lookup : (J : List Event) (who : ℕ) (key : Key) (id : Option (List ℕ)) (now : ℕ) (hit : Option ℕ) → reserved (J ++ Lookup who key id now hit ∷ []) ≤ reserved J
reserved_lookup J who key id now hit = omega (arith, reserved_push J (Lookup who key id now hit))

-- a Start reserves one at most
reserved_start : (J : List Event) (e : Event) → reserved (J ++ e ∷ []) ≤ reserved J + 1
reserved_start J e = omega (arith, reserved_push J e, one (is_pending (J ++ e ∷ []) e))
  where
    one : (b : Bool) → (if b then 1 else 0) ≤ 1
    one true = omega arith
    one false = omega arith

started_pair : (J : List Event) (who t : ℕ) (key : Key) (id : Option (List ℕ)) (now : ℕ) → ((p : ℕ) → HasStart J p) → (p : ℕ) → HasStart ((J ++ Lookup who key id now None ∷ []) ++ Start who t key id now ∷ []) p
started_pair J who t key id now started p w k i n h = last (slice_get_push K (Lookup w k i n None) S p h)
  where
    K : List Event
    K = J ++ Lookup who key id now None ∷ []

    S : Event
    S = Start who t key id now

    inner : ((p < length J) × (slice_get J p ≡ Some (Lookup w k i n None))) ⊎ ((p ≡ length J) × (Lookup who key id now None ≡ Lookup w k i n None)) → (ticket : ℕ) × (slice_get ((J ++ Lookup who key id now None ∷ []) ++ Start who t key id now ∷ []) (p + 1) ≡ Some (Start w ticket k i n))
    inner (inl a) = let r = started p w k i n a.1 in (r.0, slice_get_before (J ++ Lookup who key id now None ∷ []) (Start who t key id now ∷ []) (Start w (r.0) k i n) (p + 1) (slice_get_before J (Lookup who key id now None ∷ []) (Start w (r.0) k i n) (p + 1) (r.1)))
    inner (inr b) =
        let place : p + 1 ≡ length (J ++ Lookup who key id now None ∷ []) = omega (arith, b.0, length-append J (Lookup who key id now None ∷ [])) in
        let same : Start who t key id now ≡ Start w t k i n = cc (b.1) in
        (t, rw place (slice_get_end (J ++ Lookup who key id now None ∷ []) [] (Start who t key id now) ∙ ap (λ (e : Event). Some e) same))

    last : ((p < length (J ++ Lookup who key id now None ∷ [])) × (slice_get (J ++ Lookup who key id now None ∷ []) p ≡ Some (Lookup w k i n None))) ⊎ ((p ≡ length (J ++ Lookup who key id now None ∷ [])) × (Start who t key id now ≡ Lookup w k i n None)) → (ticket : ℕ) × (slice_get ((J ++ Lookup who key id now None ∷ []) ++ Start who t key id now ∷ []) (p + 1) ≡ Some (Start w ticket k i n))
    last (inl a) = inner (slice_get_push J (Lookup w k i n None) (Lookup who key id now None) p a.1)
    last (inr b) = absurd (cc (b.1))

starts_lookup : (J : List Event) (who : ℕ) (key : Key) (id : Option (List ℕ)) (now : ℕ) → starts J ≡ starts (J ++ Lookup who key id now None ∷ [])
starts_lookup J who key id now = omega (arith, sum_by_push (λ x. if is_start x then 1 else 0) J (Lookup who key id now None))

miss_legal : (limits : Limits) (J : List Event) (who : ℕ) (key : Key) (id : Option (List ℕ)) (now : ℕ) → IsLegal limits J → length J + reserved J + 3 ≤ limits.events → IsChoice J key id now None → IsLegal limits ((J ++ Lookup who key id now None ∷ []) ++ Start who (starts J) key id now ∷ [])
miss_legal limits J who key id now legal room choice =
    let e : Event = Lookup who key id now None in
    let f : Event = Start who (starts J) key id now in
    let first : IsNext limits J e = record { fits = choice; room = omega (arith, room, reserved_lookup J who key id now None, length-append J (e ∷ [])) } in
    let second : IsNext limits (J ++ e ∷ []) f = record {
      fits = (starts_lookup J who key id now, (J, refl));
      room = omega (arith, room, reserved_lookup J who key id now None, reserved_start (J ++ e ∷ []) f, length-append J (e ∷ []), length-append (J ++ e ∷ []) (f ∷ []));
    } in
    record {
      each = each_push limits (J ++ e ∷ []) f (each_push limits J e legal.each first) second;
      started = started_pair J who (starts J) key id now legal.started;
    }

each_lookup : (limits : Limits) (J : List Event) (who : ℕ) (key : Key) (id : Option (List ℕ)) (now : ℕ) → IsLegal limits J → length J + reserved J + 3 ≤ limits.events → IsChoice J key id now None → IsNext limits J (Lookup who key id now None)
each_lookup limits J who key id now legal room choice = record { fits = choice; room = omega (arith, room, reserved_lookup J who key id now None, length-append J (Lookup who key id now None ∷ [])) }

-- the journal with a missed Lookup is regular
pub regular_lookup : (limits : Limits) (J : List Event) (key : Key) (id : Option (List ℕ)) → IsLegal limits J → length J + reserved J + 3 ≤ limits.events → IsChoice J key id 0 None → IsRegular (J ++ Lookup 0 key id 0 None ∷ [])
regular_lookup limits J key id legal room choice = (limits, each_push limits J (Lookup 0 key id 0 None) legal.each (each_lookup limits J 0 key id 0 legal room choice))

pub shelf_asked : (limits : Limits) (J : List Event) (cap more : ℕ) (key : Key) (id : Option (List ℕ)) (old new : Tables) → IsShelf limits J cap old → length J + reserved J + 3 ≤ limits.events → IsChoice J key id 0 None
    → StandsFor new ((J ++ Lookup 0 key id 0 None ∷ []) ++ Start 0 (starts (J ++ Lookup 0 key id 0 None ∷ [])) key id 0 ∷ []) → new.stamps.limit ≡ old.stamps.limit → cap ≤ more
    → IsShelf limits ((J ++ Lookup 0 key id 0 None ∷ []) ++ Start 0 (starts J) key id 0 ∷ []) more new
shelf_asked limits J cap more key id old new shelf room choice stands limit le = record {
  legal = miss_legal limits J 0 key id 0 shelf.legal room choice;
  stands = subst (λ n. StandsFor new ((J ++ Lookup 0 key id 0 None ∷ []) ++ Start 0 n key id 0 ∷ [])) (sym (starts_lookup J 0 key id 0)) stands;
  room = omega (arith, shelf.room, le);
  limit = limit ∙ shelf.limit;
}

pub shelf_voided : (limits : Limits) (J : List Event) (cap more : ℕ) (target : Target) (count : ℕ) (old new : Tables) → IsShelf limits J cap old → length J + reserved J + 3 ≤ limits.events → IsCount (IsHeldUnder J target) (length J) count
    → StandsFor new (J ++ Invalidate 0 target count ∷ []) → new.stamps.limit ≡ old.stamps.limit → cap ≤ more → IsShelf limits (J ++ Invalidate 0 target count ∷ []) more new
shelf_voided limits J cap more target count old new shelf room counted stands limit le = record {
  legal = voided_legal limits J 0 target count shelf.legal counted (omega (arith, room));
  stands = stands;
  room = omega (arith, shelf.room, le);
  limit = limit ∙ shelf.limit;
}

value_if_stored : (offer : Offer) (out : Outcome) → HasValueIfStored (Some (got_of offer out)) out
value_if_stored offer outcome.Stored = refl
value_if_stored offer (outcome.Void p) = refl
value_if_stored offer (outcome.NoRoom a b c) = refl
value_if_stored offer (outcome.Unstorable w) = refl
value_if_stored offer outcome.Failed = refl
value_if_stored offer (outcome.Over a b) = refl
value_if_stored offer outcome.Bypassed = refl
value_if_stored offer outcome.Memory = refl

pub shelf_filled : (limits : Limits) (J : List Event) (cap more who t : ℕ) (offer : Offer) (out : Outcome) (old new : Tables) → IsShelf limits J cap old → IsUnsettled J t → ((s : Started) → start_of J t ≡ Some s → who ≡ s.who)
    → offer.verdict.lifetime ≤ 2147483648 → offer.verdict.age ≤ 2147483648 → IsDueTo limits J t (Some (got_of offer out)) out → StandsFor new (J ++ Settle who t (Some (got_of offer out)) out ∷ []) → new.stamps.limit ≡ old.stamps.limit → cap ≤ more
    → IsShelf limits (J ++ Settle who t (Some (got_of offer out)) out ∷ []) more new
shelf_filled limits J cap more who t offer out old new shelf (s, owed) by lifetime age due stands limit le = record {
  legal = settled_legal limits J who t (Some (got_of offer out)) out s shelf.legal owed (by s owed.started) (due s owed.started) (value_if_stored offer out) (lifetime, age);
  stands = stands;
  room = omega (arith, shelf.room, le);
  limit = limit ∙ shelf.limit;
}

-- a ticket that the tables do not say to be settled is open
pub open_unsettled : (tables : Tables) (J : List Event) → StandsFor tables J → (t : ℕ) (b : Bool) → t < length tables.settled.items → slice_get tables.settled.items t ≡ Some b → not b ≡ true → IsUnsettled J t
open_unsettled tables J s t true less at h = absurd (cc h)
open_unsettled tables J s t false less at h = from (start_of J t) refl
  where
    below : t < length tables.starts.items
    below = omega (arith, less, s.count, s.count_settled)

    lower : t < starts J
    lower = omega (arith, less, s.count_settled)

    from : (o : Option Started) → start_of J t ≡ o → IsUnsettled J t
    from None is = absurd (cc (sym (slice_get-get_or tables.starts.items t 0 below) ∙ s.started t ∙ ap (option_map (λ (x : Started). x.at)) is))
    from (Some r) is = (r, record { started = is; unsettled = same_Some (list_any (settles t) J) false (sym (s.settled t lower) ∙ at) })

-- an open ticket has kept the room for its Settle
pub room_to_settle : (limits : Limits) (J : List Event) (t : ℕ) → IsLegal limits J → IsUnsettled J t → length J < limits.events
room_to_settle limits J t legal (s, owed) = omega (arith, room_of limits J legal.each, reserved_settled J 0 t None outcome.Failed s owed)
