-- What one more event does to a journal.
use Rattle.std.proofs.Common.{◌≡◌, ◌⊎◌, inl, inr, ℕ, zero, suc, ◌+◌, ◌<◌, ◌≤◌, Bool, true, false, ◌||◌, not, List, [], ◌∷◌, ◌++◌, length, take, slice_get, Option, Some, refl, ap, sym, ◌∙◌, arith, subst}
use Rattle.std.specs.Prelude.{count_by, if◌then◌else◌}
use Rattle.std.specs.List.{list_any}
use Rattle.std.specs.Prelude.{◌==◌}
use Rattle.std.proofs.lemmas.Bool.Decides.{nat_tests}
use Rattle.std.proofs.lemmas.List.{take-append-le}
use Rattle.std.proofs.lemmas.Option.{same_Some}
use Rattle.std.proofs.lemmas.List.Sums.{sum_by-le-sum_by, sum_by-cons, sum_by_push}
use Rattle.std.proofs.lemmas.List.Folds.{list_any-append}
use Rattle.cache_terms.specs.declared.events.Got.{Got}
use Rattle.cache_terms.specs.declared.events.Outcome.{Outcome}
use Rattle.cache_terms.specs.declared.events.Limits.{Limits}
use Rattle.cache_terms.specs.declared.events.Event.{Event}
use Rattle.cache_terms.specs.declared.events.Event.TheVariants.{Lookup, Start, Settle, Invalidate}
use Rattle.cache_model.specs.Journal.{settles, is_pending, reserved, Started, start_from, IsOpen}
use Rattle.cache_model.specs.Legal.{IsNext, EachFits}

-- what stands in a list with one more element
pub slice_get_push : {X : Type 0} (xs : List X) (x y : X) (p : ℕ) → slice_get (xs ++ y ∷ []) p ≡ Some x → ((p < length xs) × (slice_get xs p ≡ Some x)) ⊎ ((p ≡ length xs) × (y ≡ x))
slice_get_push [] x y zero h = inr (refl, cc)
slice_get_push [] x y (suc p) h = absurd (cc)
slice_get_push (z ∷ xs) x y zero h = inl (omega arith, h)
slice_get_push (z ∷ xs) x y (suc p) h = elim (slice_get_push xs x y p h) [ inl a ↦ inl (omega (arith, a.0), a.1) | inr b ↦ inr (omega (arith, b.0), b.1) ]

pub slice_get_before : {X : Type 0} (xs ys : List X) (x : X) (p : ℕ) → slice_get xs p ≡ Some x → slice_get (xs ++ ys) p ≡ Some x
slice_get_before [] ys x p h = absurd cc
slice_get_before (z ∷ xs) ys x zero h = h
slice_get_before (z ∷ xs) ys x (suc p) h = slice_get_before xs ys x p h

pub slice_get_end : {X : Type 0} (xs ys : List X) (y : X) → slice_get (xs ++ y ∷ ys) (length xs) ≡ Some y
slice_get_end [] ys y = refl
slice_get_end (x ∷ xs) ys y = slice_get_end xs ys y

pub take_before : {X : Type 0} (xs ys : List X) (p : ℕ) → p ≤ length xs → take p (xs ++ ys) ≡ take p xs
take_before xs ys p le = take-append-le p xs ys le

pub take_all : {X : Type 0} (xs ys : List X) → take (length xs) (xs ++ ys) ≡ xs
take_all [] ys = refl
take_all (x ∷ xs) ys = ap (λ l. x ∷ l) (take_all xs ys)

-- a journal goes on with an event that fits
pub each_push : (limits : Limits) (J : List Event) (e : Event) → EachFits limits J → IsNext limits J e → EachFits limits (J ++ e ∷ [])
each_push limits J e each next = λ p x h. elim (slice_get_push J x e p h) [
  | inl a ↦ subst (λ (K : List Event). IsNext limits K x) (sym (take_before J (e ∷ []) p (omega (arith, a.0)))) (each p x a.1)
  | inr b ↦ subst (λ (n : ℕ). IsNext limits (take n (J ++ e ∷ [])) x) (sym b.0) (subst (λ (K : List Event). IsNext limits K x) (sym (take_all J (e ∷ []))) (subst (λ (y : Event). IsNext limits J y) b.1 next))
]

-- fewer pass the test that asks more
pub count_by_less : {X : Type 0} (p q : X → Bool) (xs : List X) → ((x : X) → q x ≡ true → p x ≡ true) → count_by q xs ≤ count_by p xs
count_by_less p q xs more = sum_by-le-sum_by (λ x. if q x then 1 else 0) (λ x. if p x then 1 else 0) xs (λ x. one (p x) (q x) (more x))
  where
    one : (a b : Bool) → (b ≡ true → a ≡ true) → (if b then 1 else 0) ≤ (if a then 1 else 0)
    one true true h = omega arith
    one true false h = omega arith
    one false false h = omega arith
    one false true h = absurd (cc (h refl))

pub count_by_one_less : {X : Type 0} (p q : X → Bool) (xs : List X) (i : ℕ) (y : X) → ((x : X) → q x ≡ true → p x ≡ true) → slice_get xs i ≡ Some y → p y ≡ true → q y ≡ false → count_by q xs + 1 ≤ count_by p xs
count_by_one_less p q [] i y more at in_p not_q = absurd cc
count_by_one_less p q (x ∷ xs) zero y more at in_p not_q =
    let here : x ≡ y = cc in
    let px : ◌≡◌ {A = ℕ} (if p x then 1 else 0) 1 = ap (λ (b : Bool). if b then 1 else 0) (ap p here ∙ in_p) in
    let qx : ◌≡◌ {A = ℕ} (if q x then 1 else 0) 0 = ap (λ (b : Bool). if b then 1 else 0) (ap q here ∙ not_q) in
    omega (arith, count_by_less p q xs more, px, qx, sum_by-cons (λ z. if q z then 1 else 0) x xs, sum_by-cons (λ z. if p z then 1 else 0) x xs)
count_by_one_less p q (x ∷ xs) (suc i) y more at in_p not_q =
    omega (arith, count_by_one_less p q xs i y more at in_p not_q, one (p x) (q x) (more x), sum_by-cons (λ z. if q z then 1 else 0) x xs, sum_by-cons (λ z. if p z then 1 else 0) x xs)
  where
    one : (a b : Bool) → (b ≡ true → a ≡ true) → (if b then 1 else 0) ≤ (if a then 1 else 0)
    one true true h = omega arith
    one true false h = omega arith
    one false false h = omega arith
    one false true h = absurd (cc (h refl))

-- a ticket that is pending in the longer journal was so before
pending_before : (J : List Event) (e x : Event) → is_pending (J ++ e ∷ []) x ≡ true → is_pending J x ≡ true
pending_before J e (Start who ticket key id now) h = either (list_any (settles ticket) J) (list_any (settles ticket) (e ∷ [])) (rw (← list_any-append (settles ticket) J (e ∷ [])) h)
  where
    either : (a b : Bool) → not (a || b) ≡ true → not a ≡ true
    either true b h = h
    either false b h = refl
pending_before J e (Lookup who key id now hit) h = h
pending_before J e (Settle who ticket got out) h = h
pending_before J e (Invalidate who target count) h = h

pub reserved_push : (J : List Event) (e : Event) → reserved (J ++ e ∷ []) ≤ reserved J + (if is_pending (J ++ e ∷ []) e then 1 else 0)
reserved_push J e = omega (arith, sum_by_push (λ x. if is_pending (J ++ e ∷ []) x then 1 else 0) J e, count_by_less (is_pending J) (is_pending (J ++ e ∷ [])) J (pending_before J e))

-- what a ticket's Start is
pub start_stands : (J : List Event) (at t : ℕ) (s : Started) → start_from at J t ≡ Some s → (i : ℕ) × (s.at ≡ at + i) × (slice_get J i ≡ Some (Start s.who t s.key s.id s.since))
start_stands [] at t s h = absurd cc
start_stands (Start who ticket key id now ∷ J) at t s h = here (ticket == t) refl h (λ h'. start_stands J (at + 1) t s h')
  where
    here : (b : Bool) → (ticket == t) ≡ b → (if b then Some (record { who = who; key = key; id = id; since = now; at = at }) else start_from (at + 1) J t) ≡ Some s
        → (start_from (at + 1) J t ≡ Some s → (i : ℕ) × (s.at ≡ (at + 1) + i) × (slice_get J i ≡ Some (Start s.who t s.key s.id s.since)))
        → (i : ℕ) × (s.at ≡ at + i) × (slice_get (Start who ticket key id now ∷ J) i ≡ Some (Start s.who t s.key s.id s.since))
    here true is h' rest =
        let same : ticket ≡ t = grind (arith, nat_tests) in
        let first : Started = record { who = who; key = key; id = id; since = now; at = at } in
        let found : first ≡ s = same_Some first s h' in
        (0, omega (arith, ap (λ (x : Started). x.at) found), ap (λ (n : ℕ). Some (Start who n key id now)) same ∙ ap (λ (x : Started). Some (Start x.who t x.key x.id x.since)) found)
    here false is h' rest = let r = rest h' in (suc (r.0), omega (arith, r.1), r.2)
start_stands (Lookup who key id now hit ∷ J) at t s h = let r = start_stands J (at + 1) t s h in (suc (r.0), omega (arith, r.1), r.2)
start_stands (Settle who ticket got out ∷ J) at t s h = let r = start_stands J (at + 1) t s h in (suc (r.0), omega (arith, r.1), r.2)
start_stands (Invalidate who target count ∷ J) at t s h = let r = start_stands J (at + 1) t s h in (suc (r.0), omega (arith, r.1), r.2)

-- an open ticket that is settled is open no more
pub reserved_settled : (J : List Event) (who t : ℕ) (got : Option Got) (out : Outcome) (s : Started) → IsOpen J t s → reserved (J ++ Settle who t got out ∷ []) + 1 ≤ reserved J
reserved_settled J who t got out s owed =
    let e : Event = Settle who t got out in
    let y : Event = Start s.who t s.key s.id s.since in
    let r = start_stands J 0 t s owed.started in
    let before : is_pending J y ≡ true = ap not owed.unsettled in
    let after : is_pending (J ++ e ∷ []) y ≡ false = ap not (list_any-append (settles t) J (e ∷ []) ∙ any_last (list_any (settles t) J) t) in
    omega (arith, sum_by_push (λ x. if is_pending (J ++ e ∷ []) x then 1 else 0) J e, count_by_one_less (is_pending J) (is_pending (J ++ e ∷ [])) J (r.0) y (pending_before J e) (r.2) before after)
  where
    any_last : (a : Bool) (t : ℕ) → (a || ((t == t) || false)) ≡ true
    any_last true t = refl
    any_last false t = grind (arith, nat_tests)
