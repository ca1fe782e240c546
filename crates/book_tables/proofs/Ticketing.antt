-- What one more event does to the tickets of a journal: their Starts, their number, and how many are open.
use Rattle.std.proofs.Common.{◌≡◌, ◌⊎◌, inl, inr, ℕ, zero, suc, ◌+◌, ◌<◌, ◌≤◌, ◌==◌, Bool, true, false, ◌||◌, not, List, [], ◌∷◌, ◌++◌, length, take, slice_get, get_or, Option, Some, None, refl, ap, sym, ◌∙◌, subst, arith}
use Rattle.std.specs.Prelude.{count_by, nat_lt, if◌then◌else◌}
use Rattle.std.specs.List.{list_any}
use Rattle.std.proofs.lemmas.Bool.Decides.{nat_tests}
use Rattle.std.proofs.lemmas.List.{take_more, append-nil}
use Rattle.std.proofs.lemmas.Option.{slice_get_cases, slice_get_within}
use Rattle.std.proofs.lemmas.List.Sums.{sum_by-cons, sum_by_push}
use Rattle.std.proofs.lemmas.List.Folds.{list_any-append}
use Rattle.cache_terms.specs.declared.events.Got.{Got}
use Rattle.cache_terms.specs.declared.events.Outcome.{Outcome}
use Rattle.cache_terms.specs.declared.events.Limits.{Limits}
use Rattle.cache_terms.specs.declared.events.Event.{Event}
use Rattle.cache_terms.specs.declared.events.Event.TheVariants.{Lookup, Start, Settle, Invalidate}
use Rattle.cache_model.specs.Journal.{Started, start_from, start_of, starts, is_start, settles, IsOpen, is_pending, reserved}
use Rattle.cache_model.specs.Legal.{EachFits, Fits}
use Rattle.cache_model.proofs.Growth.{take_all, start_stands, count_by_less}
use Rattle.cache_model.proofs.Tickets.{start_before, ticket_below}

-- the event is the ticket's Start
abbrev pub is_start_of : ℕ → Event → Bool
is_start_of t (Start who ticket key id now) = ticket == t
is_start_of t other = false

start_none : (J : List Event) (e : Event) (at t : ℕ) → is_start_of t e ≡ false → start_from at J t ≡ None → start_from at (J ++ e ∷ []) t ≡ None
start_none [] (Start who ticket key id now) at t other h = ap (λ (b : Bool). if b then Some (record { who = who; key = key; id = id; since = now; at = at }) else None) other
start_none [] (Lookup who key id now hit) at t other h = refl
start_none [] (Settle who ticket got out) at t other h = refl
start_none [] (Invalidate who target count) at t other h = refl
start_none (Start w u k i n ∷ J) e at t other h = here (u == t) h (start_none J e (at + 1) t other)
  where
    here : (b : Bool) → (if b then Some (record { who = w; key = k; id = i; since = n; at = at }) else start_from (at + 1) J t) ≡ None
        → (start_from (at + 1) J t ≡ None → start_from (at + 1) (J ++ e ∷ []) t ≡ None)
        → (if b then Some (record { who = w; key = k; id = i; since = n; at = at }) else start_from (at + 1) (J ++ e ∷ []) t) ≡ None
    here true h' rest = absurd (cc h')
    here false h' rest = rest h'
start_none (Lookup w k i n hit ∷ J) e at t other h = start_none J e (at + 1) t other h
start_none (Settle w u got out ∷ J) e at t other h = start_none J e (at + 1) t other h
start_none (Invalidate w target count ∷ J) e at t other h = start_none J e (at + 1) t other h

-- an event that is not the ticket's Start leaves it
pub start_same : (J : List Event) (e : Event) (t : ℕ) → is_start_of t e ≡ false → start_of (J ++ e ∷ []) t ≡ start_of J t
start_same J e t other = from (start_of J t) refl
  where
    from : (o : Option Started) → start_of J t ≡ o → start_of (J ++ e ∷ []) t ≡ start_of J t
    from None is = start_none J e 0 t other is ∙ sym is
    from (Some s) is = start_before J (e ∷ []) 0 t s is ∙ sym is

-- a Start is one more, and any other event is none
pub starts_push : (J : List Event) (e : Event) → starts (J ++ e ∷ []) ≡ starts J + (if is_start e then 1 else 0)
starts_push J e = sum_by_push (λ x. if is_start x then 1 else 0) J e

-- the Start of a ticket stands below the end
pub start_within : (J : List Event) (t : ℕ) (s : Started) → start_of J t ≡ Some s → s.at < length J
start_within J t s h =
    let r = start_stands J 0 t s h in
    let i : ℕ = r.0 in
    let place : s.at ≡ 0 + r.0 = r.1 in
    let within : r.0 < length J = slice_get_within J (r.0) (Start s.who t s.key s.id s.since) (r.2) in
    omega (arith, place, within)

-- more Starts stand below a later position
starts_between : (J : List Event) (j i : ℕ) (x : Event) → slice_get J j ≡ Some x → is_start x ≡ true → j < i → starts (take j J) + 1 ≤ starts (take i J)
starts_between [] j i x at is less = absurd (cc at)
starts_between (y ∷ J) zero zero x at is less = absurd (omega (arith, less))
starts_between (y ∷ J) zero (suc i) x at is less =
    let here : y ≡ x = cc at in
    let one : ◌≡◌ {A = ℕ} (if is_start y then 1 else 0) 1 = ap (λ (b : Bool). if b then 1 else 0) (ap is_start here ∙ is) in
    omega (arith, one, sum_by-cons (λ z. if is_start z then 1 else 0) y (take i J))
starts_between (y ∷ J) (suc j) zero x at is less = absurd (omega (arith, less))
starts_between (y ∷ J) (suc j) (suc i) x at is less =
    let lower : j < i = omega (arith, less) in
    omega (arith, starts_between J j i x at is lower, sum_by-cons (λ z. if is_start z then 1 else 0) y (take j J), sum_by-cons (λ z. if is_start z then 1 else 0) y (take i J))

-- the Starts stand in the order of their tickets
pub starts_rise : (limits : Limits) (J : List Event) → EachFits limits J → (t u : ℕ) (a b : Started) → t ≤ u → start_of J t ≡ Some a → start_of J u ≡ Some b → a.at ≤ b.at
starts_rise limits J each t u a b le first second = from (compared (x.0) (y.0))
  where
    x : (i : ℕ) × (a.at ≡ 0 + i) × (slice_get J i ≡ Some (Start a.who t a.key a.id a.since))
    x = start_stands J 0 t a first

    y : (i : ℕ) × (b.at ≡ 0 + i) × (slice_get J i ≡ Some (Start b.who u b.key b.id b.since))
    y = start_stands J 0 u b second

    compared : (i j : ℕ) → (i ≤ j) ⊎ (j < i)
    compared i j = grind arith

    from : ((x.0) ≤ (y.0)) ⊎ ((y.0) < (x.0)) → a.at ≤ b.at
    from (inl lower) = omega (arith, lower, x.1, y.1)
    from (inr over) =
        let fx : Fits limits (take (x.0) J) (Start a.who t a.key a.id a.since) = (each (x.0) (Start a.who t a.key a.id a.since) (x.2)).fits in
        let fy : Fits limits (take (y.0) J) (Start b.who u b.key b.id b.since) = (each (y.0) (Start b.who u b.key b.id b.since) (y.2)).fits in
        absurd (omega (arith, le, fx.0, fy.0, starts_between J (y.0) (x.0) (Start b.who u b.key b.id b.since) (y.2) refl over))

-- OPEN TICKETS

same_count : {X : Type 0} (p q : X → Bool) (xs : List X) → ((x : X) → p x ≡ q x) → count_by p xs ≡ count_by q xs
same_count p q xs same = omega (arith, count_by_less p q xs (λ x h. same x ∙ h), count_by_less q p xs (λ x h. sym (same x) ∙ h))

or_none : (a b : Bool) → b ≡ false → (a || (b || false)) ≡ a
or_none true b h = refl
or_none false true h = absurd (cc h)
or_none false false h = refl

-- whether a ticket is settled, after one more event
pub settled_push : (J : List Event) (e : Event) (t : ℕ) → list_any (settles t) (J ++ e ∷ []) ≡ (list_any (settles t) J || (settles t e || false))
settled_push J e t = list_any-append (settles t) J (e ∷ [])

-- an event that does not settle the ticket leaves it
pub settled_same : (J : List Event) (e : Event) (t : ℕ) → settles t e ≡ false → list_any (settles t) (J ++ e ∷ []) ≡ list_any (settles t) J
settled_same J e t other = settled_push J e t ∙ or_none (list_any (settles t) J) (settles t e) other

pending_same : (J : List Event) (e : Event) → ((t : ℕ) → settles t e ≡ false) → (x : Event) → is_pending (J ++ e ∷ []) x ≡ is_pending J x
pending_same J e none (Start who t key id now) = ap not (settled_same J e t (none t))
pending_same J e none (Lookup who key id now hit) = refl
pending_same J e none (Settle who t got out) = refl
pending_same J e none (Invalidate who target count) = refl

-- an event that settles nothing adds one open ticket where it is a new Start
pub reserved_more : (J : List Event) (e : Event) → ((t : ℕ) → settles t e ≡ false) → reserved (J ++ e ∷ []) ≡ reserved J + (if is_pending J e then 1 else 0)
reserved_more J e none =
    let last : ◌≡◌ {A = ℕ} (if is_pending (J ++ e ∷ []) e then 1 else 0) (if is_pending J e then 1 else 0) = ap (λ (b : Bool). if b then 1 else 0) (pending_same J e none e) in
    omega (arith, last, sum_by_push (λ x. if is_pending (J ++ e ∷ []) x then 1 else 0) J e, same_count (is_pending (J ++ e ∷ [])) (is_pending J) J (pending_same J e none))

split_count : {X : Type 0} (p q r : X → Bool) (xs : List X) → ((x : X) → ◌≡◌ {A = ℕ} ((if q x then 1 else 0) + (if r x then 1 else 0)) (if p x then 1 else 0)) → count_by q xs + count_by r xs ≡ count_by p xs
split_count p q r [] each = refl
split_count p q r (x ∷ xs) each = omega (arith, split_count p q r xs each, each x, sum_by-cons (λ z. if p z then 1 else 0) x xs, sum_by-cons (λ z. if q z then 1 else 0) x xs, sum_by-cons (λ z. if r z then 1 else 0) x xs)

below_none : (t : ℕ) → nat_lt t 0 ≡ false
below_none t = grind (arith, nat_tests)

-- a ticket has one Start, where it has one
one_start_front : (limits : Limits) (J : List Event) → EachFits limits J → (t n : ℕ) → n ≤ length J → count_by (is_start_of t) (take n J) ≡ (if nat_lt t (starts (take n J)) then 1 else 0)
one_start_front limits J each t zero le = sym (ap (λ (b : Bool). if b then 1 else 0) (below_none t))
one_start_front limits J each t (suc n) le = step (slice_get_cases J n) (one_start_front limits J each t n (omega (arith, le)))
  where
    number : Bool → ℕ
    number b = if b then 1 else 0

    flip : (a b : ℕ) → a + b ≡ b + a
    flip a b = omega arith

    none_more : (p : ℕ → Bool) (n : ℕ) → 0 + number (p n) ≡ number (p (n + 0))
    none_more p n =
        let same : n + 0 ≡ n = omega arith in
        rw same (omega arith)

    counted : (K : List Event) (x : Event) → Fits limits K x → count_by (is_start_of t) K ≡ number (nat_lt t (starts K)) → number (is_start_of t x) + number (nat_lt t (starts K)) ≡ number (nat_lt t (starts K + number (is_start x)))
    counted K (Start who u key id now) fits before = grind (arith, nat_tests, fits.0)
    counted K (Lookup who key id now hit) fits before = none_more (nat_lt t) (starts K)
    counted K (Settle who u got out) fits before = none_more (nat_lt t) (starts K)
    counted K (Invalidate who target count) fits before = none_more (nat_lt t) (starts K)

    step : (slice_get J n ≡ slice_get J n) × (((x : Event) × (n < length J) × (slice_get J n ≡ Some x) × (get_or J n x ≡ x)) ⊎ ((length J ≤ n) × (slice_get J n ≡ None)))
        → count_by (is_start_of t) (take n J) ≡ (if nat_lt t (starts (take n J)) then 1 else 0) → count_by (is_start_of t) (take (suc n) J) ≡ (if nat_lt t (starts (take (suc n) J)) then 1 else 0)
    step (same, inl found) before =
        let x : Event = found.0 in
        let more : take (n + 1) J ≡ take n J ++ x ∷ [] = take_more J n x found.1 ∙ ap (λ (y : Event). take n J ++ y ∷ []) found.3 in
        let one = counted (take n J) x (each n x found.2).fits before in
        let sum : count_by (is_start_of t) (take n J ++ x ∷ []) ≡ count_by (is_start_of t) (take n J) + number (is_start_of t x) = sum_by_push (λ z. if is_start_of t z then 1 else 0) (take n J) x in
        let next : n + 1 ≡ suc n = omega arith in
        let longer : count_by (is_start_of t) (take n J ++ x ∷ []) ≡ number (nat_lt t (starts (take n J ++ x ∷ []))) = sum ∙ flip (count_by (is_start_of t) (take n J)) (number (is_start_of t x)) ∙ ap (λ (m : ℕ). number (is_start_of t x) + m) before ∙ one ∙ sym (ap (λ (m : ℕ). number (nat_lt t m)) (starts_push (take n J) x)) in
        subst (λ (m : ℕ). count_by (is_start_of t) (take m J) ≡ number (nat_lt t (starts (take m J)))) next (subst (λ (K : List Event). count_by (is_start_of t) K ≡ number (nat_lt t (starts K))) (sym more) longer)
    step (same, inr past) before = absurd (omega (arith, le, past.0))

one_start : (limits : Limits) (J : List Event) → EachFits limits J → (t : ℕ) → t < starts J → count_by (is_start_of t) J ≡ 1
one_start limits J each t below =
    let whole : take (length J) J ≡ J = ap (take (length J)) (sym (append-nil J)) ∙ take_all J [] in
    let front : count_by (is_start_of t) J ≡ (if nat_lt t (starts J) then 1 else 0) = subst (λ (K : List Event). count_by (is_start_of t) K ≡ (if nat_lt t (starts K) then 1 else 0)) whole (one_start_front limits J each t (length J) (omega arith)) in
    let is : nat_lt t (starts J) ≡ true = grind (arith, nat_tests) in
    front ∙ ap (λ (b : Bool). if b then 1 else 0) is

-- an open ticket that is settled is one open ticket fewer
pub reserved_less : (limits : Limits) (J : List Event) → EachFits limits J → (who t : ℕ) (got : Option Got) (out : Outcome) (s : Started) → IsOpen J t s → reserved (J ++ Settle who t got out ∷ []) + 1 ≡ reserved J
reserved_less limits J each who t got out s owed =
    omega (arith, sum_by_push (λ x. if is_pending (J ++ Settle who t got out ∷ []) x then 1 else 0) J (Settle who t got out), split_count (is_pending J) (is_pending (J ++ Settle who t got out ∷ [])) (is_start_of t) J one, one_start limits J each t (ticket_below limits J each t s owed.started))
  where
    either : (a b : Bool) → (b ≡ true → a ≡ false) → ◌≡◌ {A = ℕ} ((if not (a || (b || false)) then 1 else 0) + (if b then 1 else 0)) (if not a then 1 else 0)
    either true true h = absurd (cc (h refl))
    either true false h = refl
    either false true h = refl
    either false false h = refl

    same_ticket : (u : ℕ) → (t == u) ≡ (u == t)
    same_ticket u = grind (arith, nat_tests)

    one : (x : Event) → ◌≡◌ {A = ℕ} ((if is_pending (J ++ Settle who t got out ∷ []) x then 1 else 0) + (if is_start_of t x then 1 else 0)) (if is_pending J x then 1 else 0)
    one (Lookup w key id now hit) = refl
    one (Settle w u g o) = refl
    one (Invalidate w target count) = refl
    one (Start w u key id now) =
        let settled : list_any (settles u) (J ++ Settle who t got out ∷ []) ≡ (list_any (settles u) J || ((u == t) || false)) = settled_push J (Settle who t got out) u ∙ ap (λ (b : Bool). list_any (settles u) J || (b || false)) (same_ticket u) in
        rw settled (either (list_any (settles u) J) (u == t) (λ h. ap (λ (n : ℕ). list_any (settles n) J) (same u h) ∙ owed.unsettled))
      where
        same : (u : ℕ) → (u == t) ≡ true → u ≡ t
        same u h = grind (arith, nat_tests)
