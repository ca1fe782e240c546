-- What an ask leaves of a legal journal.
use Rattle.std.proofs.Common.{◌≡◌, ◌⊎◌, inl, inr, ℕ, ◌+◌, ◌<◌, ◌≤◌, Bool, true, false, List, [], ◌∷◌, ◌++◌, length, slice_get, Option, Some, None, refl, ap, sym, ◌∙◌, arith, subst, length-append, append_assoc, All}
use Rattle.std.specs.Prelude.{if◌then◌else◌, Result, Ok, Err, IfOk, OnErr}
use Rattle.std.proofs.lemmas.List.{append-nil}
use Rattle.std.proofs.lemmas.List.Sums.{sum_by_push}
use Rattle.cache_terms.specs.declared.keys.Key.{Key}
use Rattle.cache_terms.specs.declared.events.Limits.{Limits}
use Rattle.cache_terms.specs.declared.events.Event.{Event}
use Rattle.cache_terms.specs.declared.events.Event.TheVariants.{Lookup, Start}
use Rattle.cache_book.specs.declared.found.Found.{Found}
use Rattle.cache_book.specs.declared.found.Found.TheVariants as found
use Rattle.cache_model.specs.Journal.{reserved, starts, is_start, is_pending, IsChoice}
use Rattle.cache_model.specs.Legal.{IsLegal, IsNext, HasStart}
use Rattle.std.proofs.lemmas.List.Elements.{All-cons, All-nil}
use Rattle.book_tables.specs.Standing.{IsLookupOrStart, IsRegular}
use Rattle.cache_book.specs.Permits.{Pinned}
use Rattle.cache_book.specs.Looking.{Asked}
use Rattle.cache_model.proofs.Growth.{each_push, slice_get_push, slice_get_before, slice_get_end, reserved_push}
use Rattle.cache_model.proofs.Legality.{started_push}

-- a Lookup reserves nothing
pub reserved_lookup : (J : List Event) (who : ℕ) (key : Key) (id : Option (List ℕ)) (now : ℕ) (hit : Option ℕ) → reserved (J ++ Lookup who key id now hit ∷ []) ≤ reserved J
reserved_lookup J who key id now hit = omega (arith, reserved_push J (Lookup who key id now hit))

-- a Start reserves one at most
reserved_start : (J : List Event) (e : Event) → reserved (J ++ e ∷ []) ≤ reserved J + 1
reserved_start J e = omega (arith, reserved_push J e, one (is_pending (J ++ e ∷ []) e))
  where
    one : (b : Bool) → (if b then 1 else 0) ≤ 1
    one true = omega arith
    one false = omega arith

hit_legal : (limits : Limits) (J : List Event) (who : ℕ) (key : Key) (id : Option (List ℕ)) (now q : ℕ) → IsLegal limits J → length J + reserved J + 3 ≤ limits.events → IsChoice J key id now (Some q) → IsLegal limits (J ++ Lookup who key id now (Some q) ∷ [])
hit_legal limits J who key id now q legal room choice =
    let e : Event = Lookup who key id now (Some q) in
    let next : IsNext limits J e = record { fits = choice; room = omega (arith, room, reserved_lookup J who key id now (Some q), length-append J (e ∷ [])) } in
    record { each = each_push limits J e legal.each next; started = started_push J e (λ w k i n h. absurd (cc h)) legal.started }

started_pair : (J : List Event) (who t : ℕ) (key : Key) (id : Option (List ℕ)) (now : ℕ) → ((p : ℕ) → HasStart J p) → (p : ℕ) → HasStart ((J ++ Lookup who key id now None ∷ []) ++ Start who t key id now ∷ []) p
started_pair J who t key id now started p w k i n h = last (slice_get_push K (Lookup w k i n None) S p h)
  where
    K : List Event
    K = J ++ Lookup who key id now None ∷ []

    S : Event
    S = Start who t key id now

    inner : ((p < length J) × (slice_get J p ≡ Some (Lookup w k i n None))) ⊎ ((p ≡ length J) × (Lookup who key id now None ≡ Lookup w k i n None)) → (ticket : ℕ) × (slice_get ((J ++ Lookup who key id now None ∷ []) ++ Start who t key id now ∷ []) (p + 1) ≡ Some (Start w ticket k i n))
    inner (inl a) = let r = started p w k i n a.1 in (r.0, slice_get_before (J ++ Lookup who key id now None ∷ []) (Start who t key id now ∷ []) (Start w (r.0) k i n) (p + 1) (slice_get_before J (Lookup who key id now None ∷ []) (Start w (r.0) k i n) (p + 1) (r.1)))
    inner (inr b) =
        let place : p + 1 ≡ length (J ++ Lookup who key id now None ∷ []) = omega (arith, b.0, length-append J (Lookup who key id now None ∷ [])) in
        let same : Start who t key id now ≡ Start w t k i n = cc (b.1) in
        (t, rw place (slice_get_end (J ++ Lookup who key id now None ∷ []) [] (Start who t key id now) ∙ ap (λ (e : Event). Some e) same))

    last : ((p < length (J ++ Lookup who key id now None ∷ [])) × (slice_get (J ++ Lookup who key id now None ∷ []) p ≡ Some (Lookup w k i n None))) ⊎ ((p ≡ length (J ++ Lookup who key id now None ∷ [])) × (Start who t key id now ≡ Lookup w k i n None)) → (ticket : ℕ) × (slice_get ((J ++ Lookup who key id now None ∷ []) ++ Start who t key id now ∷ []) (p + 1) ≡ Some (Start w ticket k i n))
    last (inl a) = inner (slice_get_push J (Lookup w k i n None) (Lookup who key id now None) p a.1)
    last (inr b) = absurd (cc (b.1))

pub starts_lookup : (J : List Event) (who : ℕ) (key : Key) (id : Option (List ℕ)) (now : ℕ) → starts J ≡ starts (J ++ Lookup who key id now None ∷ [])
starts_lookup J who key id now = omega (arith, sum_by_push (λ x. if is_start x then 1 else 0) J (Lookup who key id now None))

miss_legal : (limits : Limits) (J : List Event) (who : ℕ) (key : Key) (id : Option (List ℕ)) (now : ℕ) → IsLegal limits J → length J + reserved J + 3 ≤ limits.events → IsChoice J key id now None → IsLegal limits ((J ++ Lookup who key id now None ∷ []) ++ Start who (starts J) key id now ∷ [])
miss_legal limits J who key id now legal room choice =
    let e : Event = Lookup who key id now None in
    let f : Event = Start who (starts J) key id now in
    let first : IsNext limits J e = record { fits = choice; room = omega (arith, room, reserved_lookup J who key id now None, length-append J (e ∷ [])) } in
    let second : IsNext limits (J ++ e ∷ []) f = record {
      fits = (starts_lookup J who key id now, (J, refl));
      room = omega (arith, room, reserved_lookup J who key id now None, reserved_start (J ++ e ∷ []) f, length-append J (e ∷ []), length-append (J ++ e ∷ []) (f ∷ []));
    } in
    record {
      each = each_push limits (J ++ e ∷ []) f (each_push limits J e legal.each first) second;
      started = started_pair J who (starts J) key id now legal.started;
    }

-- a legal journal stays legal
pub asked_legal : (limits : Limits) (pass : Pinned) (id : Option (List ℕ)) (now : ℕ) (key : Key) (J : List Event) (answer : Found) (K : List Event) → IsLegal limits J → length J + reserved J + 3 ≤ limits.events → Asked pass id now key J answer K → IsLegal limits K
asked_legal limits pass id now key J (found.Hit l s v m b) K legal room h = subst (IsLegal limits) (sym h.after) (hit_legal limits J pass.who key id now s legal room h.choice)
asked_legal limits pass id now key J (found.Miss l p) K legal room h = subst (IsLegal limits) (append_assoc J (Lookup pass.who key id now None ∷ []) (Start pass.who (starts J) key id now ∷ []) ∙ sym h.after) (miss_legal limits J pass.who key id now legal room h.choice)
asked_legal limits pass id now key J (found.Bypass p) K legal room h = subst (IsLegal limits) (sym h.after) legal

-- an ask takes the room for three at most
pub asked_room : (pass : Pinned) (id : Option (List ℕ)) (now : ℕ) (key : Key) (J : List Event) (answer : Found) (K : List Event) → Asked pass id now key J answer K → length K + reserved K ≤ length J + reserved J + 3
asked_room pass id now key J (found.Hit l s v m b) K h =
    let e : Event = Lookup pass.who key id now (Some s) in
    subst (λ (M : List Event). length M + reserved M ≤ length J + reserved J + 3) (sym h.after) (omega (arith, reserved_lookup J pass.who key id now (Some s), length-append J (e ∷ [])))
asked_room pass id now key J (found.Miss l p) K h =
    let e : Event = Lookup pass.who key id now None in
    let f : Event = Start pass.who (starts J) key id now in
    subst (λ (M : List Event). length M + reserved M ≤ length J + reserved J + 3) (append_assoc J (e ∷ []) (f ∷ []) ∙ sym h.after)
    (omega (arith, reserved_lookup J pass.who key id now None, reserved_start (J ++ e ∷ []) f, length-append J (e ∷ []), length-append (J ++ e ∷ []) (f ∷ [])))
asked_room pass id now key J (found.Bypass p) K h = subst (λ (M : List Event). length M + reserved M ≤ length J + reserved J + 3) (sym h.after) (omega arith)

-- an ask only appends
pub asked_appends : (pass : Pinned) (id : Option (List ℕ)) (now : ℕ) (key : Key) (J : List Event) (answer : Found) (K : List Event) → Asked pass id now key J answer K → (added : List Event) × (K ≡ J ++ added)
asked_appends pass id now key J (found.Hit l s v m b) K h = (Lookup pass.who key id now (Some s) ∷ [], h.after)
asked_appends pass id now key J (found.Miss l p) K h = (Lookup pass.who key id now None ∷ Start pass.who (starts J) key id now ∷ [], h.after)
asked_appends pass id now key J (found.Bypass p) K h = ([], h.after ∙ sym (append-nil J))

-- a legal journal stays legal, whether the ask is answered or finds no memory
pub answered_legal : {E : Type 0} (limits : Limits) (pass : Pinned) (id : Option (List ℕ)) (now : ℕ) (key : Key) (J K : List Event) (r : Result Found E)
    → IsLegal limits J → length J + reserved J + 3 ≤ limits.events → IfOk r (λ a. Asked pass id now key J a K) → OnErr r (K ≡ J) → IsLegal limits K
answered_legal limits pass id now key J K (Ok a) legal room ok err = asked_legal limits pass id now key J a K legal room ok
answered_legal limits pass id now key J K (Err e) legal room ok err = subst (IsLegal limits) (sym err) legal

-- the events that a miss begins with a Lookup are regular
pub looked_regular : (limits : Limits) (J : List Event) (who : ℕ) (key : Key) (id : Option (List ℕ)) (now : ℕ) → IsLegal limits J → length J + reserved J + 3 ≤ limits.events → IsChoice J key id now None → IsRegular (J ++ Lookup who key id now None ∷ [])
looked_regular limits J who key id now legal room choice =
    let e : Event = Lookup who key id now None in
    let next : IsNext limits J e = record { fits = choice; room = omega (arith, room, reserved_lookup J who key id now None, length-append J (e ∷ [])) } in
    (limits, each_push limits J e legal.each next)

-- an ask goes on with Lookups and Starts
pub asked_quiet : (pass : Pinned) (id : Option (List ℕ)) (now : ℕ) (key : Key) (J : List Event) (answer : Found) (K : List Event) → Asked pass id now key J answer K → (added : List Event) × (K ≡ J ++ added) × All IsLookupOrStart added
asked_quiet pass id now key J (found.Hit l s v m b) K h = (Lookup pass.who key id now (Some s) ∷ [], h.after, All-cons IsLookupOrStart (Lookup pass.who key id now (Some s)) [] tt (All-nil IsLookupOrStart))
asked_quiet pass id now key J (found.Miss l p) K h =
    let e : Event = Lookup pass.who key id now None in
    let f : Event = Start pass.who (starts J) key id now in
    (e ∷ f ∷ [], h.after, All-cons IsLookupOrStart e (f ∷ []) tt (All-cons IsLookupOrStart f [] tt (All-nil IsLookupOrStart)))
asked_quiet pass id now key J (found.Bypass p) K h = ([], h.after ∙ sym (append-nil J), All-nil IsLookupOrStart)
