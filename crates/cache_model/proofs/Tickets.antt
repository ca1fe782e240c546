-- The tickets of a legal journal: each is below the number of Starts, and an open one stays open.
use Rattle.std.proofs.Common.{◌≡◌, ℕ, suc, ◌+◌, ◌<◌, ◌==◌, Bool, true, false, ◌||◌, List, [], ◌∷◌, ◌++◌, length, take, drop, slice_get, get_or, Option, Some, None, refl, ap, ◌∙◌, arith, subst}
use Rattle.std.specs.Prelude.{if◌then◌else◌}
use Rattle.std.specs.List.{list_any}
use Rattle.std.proofs.lemmas.Bool.Decides.{nat_tests}
use Rattle.std.proofs.lemmas.List.{take-append-drop}
use Rattle.std.proofs.lemmas.Option.{slice_get_within, get_or_from_slice_get}
use Rattle.std.proofs.lemmas.List.Sums.{sum_by_more_le}
use Rattle.std.proofs.lemmas.List.Folds.{list_any-append}
use Rattle.cache_terms.specs.declared.keys.Key.{Key}
use Rattle.cache_terms.specs.declared.events.Limits.{Limits}
use Rattle.cache_terms.specs.declared.events.Event.{Event}
use Rattle.cache_terms.specs.declared.events.Event.TheVariants.{Lookup, Start, Settle, Invalidate}
use Rattle.cache_model.specs.Journal.{Started, start_from, start_of, starts, is_start, settles, IsOpen}
use Rattle.cache_model.specs.Legal.{EachFits, Fits}
use Rattle.cache_model.proofs.Growth.{start_stands}

-- more events leave the Start of a ticket
pub start_before : (J more : List Event) (at t : ℕ) (s : Started) → start_from at J t ≡ Some s → start_from at (J ++ more) t ≡ Some s
start_before [] more at t s h = absurd cc
start_before (Start who ticket key id now ∷ J) more at t s h = here (ticket == t) h (start_before J more (at + 1) t s)
  where
    here : (b : Bool) → (if b then Some (record { who = who; key = key; id = id; since = now; at = at }) else start_from (at + 1) J t) ≡ Some s
        → (start_from (at + 1) J t ≡ Some s → start_from (at + 1) (J ++ more) t ≡ Some s)
        → (if b then Some (record { who = who; key = key; id = id; since = now; at = at }) else start_from (at + 1) (J ++ more) t) ≡ Some s
    here true h' rest = h'
    here false h' rest = rest h'
start_before (Lookup who key id now hit ∷ J) more at t s h = start_before J more (at + 1) t s h
start_before (Settle who ticket got out ∷ J) more at t s h = start_before J more (at + 1) t s h
start_before (Invalidate who target count ∷ J) more at t s h = start_before J more (at + 1) t s h

-- the first Start of a ticket that had none
pub start_last : (J : List Event) (at who t : ℕ) (key : Key) (id : Option (List ℕ)) (now : ℕ) → start_from at J t ≡ None → start_from at (J ++ Start who t key id now ∷ []) t ≡ Some (record { who = who; key = key; id = id; since = now; at = at + length J })
start_last [] at who t key id now h =
    let same : (t == t) ≡ true = grind (arith, nat_tests) in
    let place : at ≡ at + 0 = omega arith in
    rw same (ap (λ (n : ℕ). Some (record { who = who; key = key; id = id; since = now; at = n })) place)
start_last (Start w u k i n ∷ J) at who t key id now h = here (u == t) h (start_last J (at + 1) who t key id now)
  where
    here : (b : Bool) → (if b then Some (record { who = w; key = k; id = i; since = n; at = at }) else start_from (at + 1) J t) ≡ None
        → (start_from (at + 1) J t ≡ None → start_from (at + 1) (J ++ Start who t key id now ∷ []) t ≡ Some (record { who = who; key = key; id = id; since = now; at = (at + 1) + length J }))
        → (if b then Some (record { who = w; key = k; id = i; since = n; at = at }) else start_from (at + 1) (J ++ Start who t key id now ∷ []) t) ≡ Some (record { who = who; key = key; id = id; since = now; at = at + suc (length J) })
    here true h' rest = absurd cc
    here false h' rest =
        let place : (at + 1) + length J ≡ at + suc (length J) = omega arith in
        rest h' ∙ ap (λ (m : ℕ). Some (record { who = who; key = key; id = id; since = now; at = m })) place
start_last (Lookup w k i n hit ∷ J) at who t key id now h = start_last J (at + 1) who t key id now h ∙ ap (λ (m : ℕ). Some (record { who = who; key = key; id = id; since = now; at = m })) (omega arith)
start_last (Settle w u got out ∷ J) at who t key id now h = start_last J (at + 1) who t key id now h ∙ ap (λ (m : ℕ). Some (record { who = who; key = key; id = id; since = now; at = m })) (omega arith)
start_last (Invalidate w target count ∷ J) at who t key id now h = start_last J (at + 1) who t key id now h ∙ ap (λ (m : ℕ). Some (record { who = who; key = key; id = id; since = now; at = m })) (omega arith)

-- a ticket is below the number of Starts
pub ticket_below : (limits : Limits) (J : List Event) → EachFits limits J → (t : ℕ) (s : Started) → start_of J t ≡ Some s → t < starts J
ticket_below limits J each t s h =
    let r = start_stands J 0 t s h in
    let e : Event = Start s.who t s.key s.id s.since in
    let fits : Fits limits (take (r.0) J) e = (each (r.0) e (r.2)).fits in
    let within : r.0 < length J = slice_get_within J (r.0) e (r.2) in
    let here : get_or J (r.0) e ≡ e = get_or_from_slice_get J (r.0) e e (r.2) in
    let one : ◌≡◌ {A = ℕ} (if is_start (get_or J (r.0) e) then 1 else 0) 1 = ap (λ (x : Event). if is_start x then 1 else 0) here in
    omega (arith, fits.0, one, sum_by_more_le (λ (x : Event). if is_start x then 1 else 0) J (r.0) e within)

pub no_start : (limits : Limits) (J : List Event) → EachFits limits J → start_of J (starts J) ≡ None
no_start limits J each = from (start_of J (starts J)) refl
  where
    from : (o : Option Started) → start_of J (starts J) ≡ o → o ≡ None
    from None is = refl
    from (Some s) is = absurd (omega (arith, ticket_below limits J each (starts J) s is))

pub any_place : {X : Type 0} (p : X → Bool) (xs : List X) → list_any p xs ≡ true → (i : ℕ) × ((x : X) × (slice_get xs i ≡ Some x) × (p x ≡ true))
any_place p [] h = absurd cc
any_place {X = X} p (x ∷ xs) h = from (p x) refl h (any_place p xs)
  where
    from : (b : Bool) → p x ≡ b → (b || list_any p xs) ≡ true → (list_any p xs ≡ true → (i : ℕ) × ((y : X) × (slice_get xs i ≡ Some y) × (p y ≡ true))) → (i : ℕ) × ((y : X) × (slice_get (x ∷ xs) i ≡ Some y) × (p y ≡ true))
    from true is h' rest = (0, (x, refl, is))
    from false is h' rest = let r = rest h' in (suc (r.0), r.1)

-- a Settle is of a ticket that was started
settled_below : (limits : Limits) (J : List Event) → EachFits limits J → (t i : ℕ) (e : Event) → slice_get J i ≡ Some e → settles t e ≡ true → t < starts J
settled_below limits J each t i (Lookup who key id now hit) at is = absurd cc
settled_below limits J each t i (Start who ticket key id now) at is = absurd cc
settled_below limits J each t i (Invalidate who target count) at is = absurd cc
settled_below limits J each t i (Settle who ticket got out) at is =
    let fits : Fits limits (take i J) (Settle who ticket got out) = (each i (Settle who ticket got out) at).fits in
    let same : ticket ≡ t = grind (arith, nat_tests) in
    let whole : take i J ++ drop i J ≡ J = take-append-drop i J in
    let found : start_of J ticket ≡ Some (fits.0) = subst (λ (K : List Event). start_of K ticket ≡ Some (fits.0)) whole (start_before (take i J) (drop i J) 0 ticket (fits.0) (fits.1.started)) in
    omega (arith, same, ticket_below limits J each ticket (fits.0) found)

pub no_settle : (limits : Limits) (J : List Event) → EachFits limits J → list_any (settles (starts J)) J ≡ false
no_settle limits J each = from (list_any (settles (starts J)) J) refl
  where
    from : (b : Bool) → list_any (settles (starts J)) J ≡ b → b ≡ false
    from false is = refl
    from true is = let r = any_place (settles (starts J)) J is in absurd (omega (arith, settled_below limits J each (starts J) (r.0) (r.1.0) (r.1.1) (r.1.2)))

-- an open ticket stays open where no Settle of it is added
pub open_before : (J : List Event) (e : Event) (t : ℕ) (s : Started) → settles t e ≡ false → IsOpen J t s → IsOpen (J ++ e ∷ []) t s
open_before J e t s other o = record {
  started = start_before J (e ∷ []) 0 t s o.started;
  unsettled = list_any-append (settles t) J (e ∷ []) ∙ both (list_any (settles t) J) (settles t e) o.unsettled other;
}
  where
    both : (a b : Bool) → a ≡ false → b ≡ false → (a || (b || false)) ≡ false
    both false false p q = refl
    both true b p q = absurd (cc p)
    both false true p q = absurd (cc q)

-- a ticket that is started is open
pub open_started : (limits : Limits) (J : List Event) → EachFits limits J → (who : ℕ) (key : Key) (id : Option (List ℕ)) (now : ℕ) → IsOpen (J ++ Start who (starts J) key id now ∷ []) (starts J) (record { who = who; key = key; id = id; since = now; at = length J })
open_started limits J each who key id now = record {
  started = start_last J 0 who (starts J) key id now (no_start limits J each) ∙ ap (λ (m : ℕ). Some (record { who = who; key = key; id = id; since = now; at = m })) (omega arith);
  unsettled = list_any-append (settles (starts J)) J (Start who (starts J) key id now ∷ []) ∙ none (list_any (settles (starts J)) J) (no_settle limits J each);
}
  where
    none : (a : Bool) → a ≡ false → (a || (false || false)) ≡ false
    none false p = refl
    none true p = absurd (cc p)
