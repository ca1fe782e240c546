-- What the tables say of tickets after a Settle of an open one.
use Rattle.std.proofs.Common.{◌≡◌, ◌⊎◌, inl, inr, ℕ, zero, suc, ◌+◌, ◌<◌, ◌≤◌, ◌==◌, Bool, true, false, ◌||◌, List, [], ◌∷◌, ◌++◌, length, slice_get, slice_set, vec_capacity, Option, Some, None, refl, ap, sym, ◌∙◌, subst, arith, length-append}
use Rattle.std.specs.FinMap as map
use Rattle.std.specs.List.{list_any}
use Rattle.std.specs.Option.{option_map}
use Rattle.std.proofs.lemmas.Bool.Decides.{nat_tests}
use Rattle.std.proofs.lemmas.Option.{slice_get-get_or, slice_get_past, same_Some}
use Rattle.cache_terms.specs.declared.events.Got.{Got}
use Rattle.cache_terms.specs.declared.events.Outcome.{Outcome}
use Rattle.cache_terms.specs.declared.events.Limits.{Limits}
use Rattle.cache_terms.specs.declared.events.Event.{Event}
use Rattle.cache_terms.specs.declared.events.Event.TheVariants.{Settle}
use Rattle.cache_model.specs.Journal.{Started, start_of, starts, settles, IsOpen}
use Rattle.cache_model.specs.Legal.{EachFits}
use Rattle.cache_model.proofs.Tickets.{ticket_below}
use Rattle.book_index.specs.Stamps.{Positions, IsPruned}
use Rattle.book_index.proofs.Telling.{tell_quiet, tell_pruned}
use Rattle.book_tables.specs.declared.tables.Tables.{Tables}
use Rattle.book_tables.specs.Halves.{TicketsStand, StampsLeft}
use Rattle.book_tables.specs.Standing.{IsOldest, StampsStand}
use Rattle.book_tables.proofs.Ticketing.{start_same, starts_push, starts_rise, settled_push, settled_same, reserved_less}

no_more : (n : ℕ) → n + 0 ≡ n
no_more n = omega arith

-- the list with one element set
pub set_this : {X : Type 0} (xs : List X) (i : ℕ) (x : X) → i < length xs → slice_get (slice_set xs i x) i ≡ Some x
set_this [] i x less = absurd (omega (arith, less))
set_this (y ∷ xs) zero x less = refl
set_this (y ∷ xs) (suc i) x less = set_this xs i x (omega (arith, less))

pub set_other : {X : Type 0} (xs : List X) (i : ℕ) (x : X) (j : ℕ) → (j ≡ i → ⊥) → slice_get (slice_set xs i x) j ≡ slice_get xs j
set_other [] i x j other = refl
set_other (y ∷ xs) zero x zero other = absurd (other refl)
set_other (y ∷ xs) zero x (suc j) other = refl
set_other (y ∷ xs) (suc i) x zero other = refl
set_other (y ∷ xs) (suc i) x (suc j) other = set_other xs i x j (λ same. other (ap suc same))

module _ (limits : Limits) (J : List Event) (each : EachFits limits J) (t : ℕ) (s : Started) (owed : IsOpen J t s) (old : Tables) (h : TicketsStand old J) where
  pub below : t < starts J
  below = ticket_below limits J each t s owed.started

  unsettled : slice_get old.settled.items t ≡ Some false
  unsettled = h.settled t below ∙ ap Some owed.unsettled

  compared : (a b : ℕ) → (a ≤ b) ⊎ (b < a)
  compared a b = grind arith

  -- the oldest open ticket is this one or an older one
  pub oldest_le : old.oldest ≤ t
  oldest_le = elim (compared old.oldest t) [ inl le ↦ le | inr over ↦ absurd (cc (sym unsettled ∙ h.oldest.below t over)) ]

  start_of_ticket : (u p : ℕ) → slice_get old.starts.items u ≡ Some p → (a : Started) × (start_of J u ≡ Some a) × (a.at ≡ p)
  start_of_ticket u p at = from (start_of J u) refl (sym (h.started u) ∙ at)
    where
      from : (o : Option Started) → start_of J u ≡ o → option_map (λ (a : Started). a.at) o ≡ Some p → (a : Started) × (start_of J u ≡ Some a) × (a.at ≡ p)
      from None is h' = absurd (cc h')
      from (Some a) is h' = (a, is, same_Some a.at p h')

  pub rising : (u v p q : ℕ) → u ≤ v → slice_get old.starts.items u ≡ Some p → slice_get old.starts.items v ≡ Some q → p ≤ q
  rising u v p q le first second =
      let a = start_of_ticket u p first in
      let b = start_of_ticket v q second in
      omega (arith, starts_rise limits J each u v (a.0) (b.0) le a.1 b.1, a.2, b.2)

  stamps_left : (who : ℕ) (got : Option Got) (out : Outcome) (after : ℕ) (new : Positions) → old.oldest ≤ after → StampsLeft old.starts.items old.oldest after old.stamps.stamps new
      → StampsStand (J ++ Settle who t got out ∷ []) (slice_get old.starts.items after) new
  stamps_left who got out after new le (inl (past, none)) = subst (λ o. StampsStand (J ++ Settle who t got out ∷ []) o new) (sym (slice_get_past old.starts.items after past)) none
  stamps_left who got out after new le (inr left) = from (slice_get old.starts.items old.oldest) refl h.stamps left
    where
      oldest_within : old.oldest < length old.starts.items
      oldest_within = omega (arith, oldest_le, below, h.count)

      from : (o : Option ℕ) → slice_get old.starts.items old.oldest ≡ o → StampsStand J o old.stamps.stamps
          → ((p : ℕ) × (slice_get old.starts.items after ≡ Some p) × IsPruned p old.stamps.stamps new) ⊎ ((after ≡ old.oldest) × (new ≡ old.stamps.stamps))
          → StampsStand (J ++ Settle who t got out ∷ []) (slice_get old.starts.items after) new
      from None is stand left = absurd (cc (sym is ∙ slice_get-get_or old.starts.items old.oldest 0 oldest_within))
      from (Some at) is stand (inr same) = subst (λ o. StampsStand (J ++ Settle who t got out ∷ []) o new) (sym (ap (slice_get old.starts.items) same.0 ∙ is)) (subst (λ m. StampsStand (J ++ Settle who t got out ∷ []) (Some at) m) (sym same.1) (tell_quiet J (Settle who t got out) at old.stamps.stamps (λ target v. v) stand))
      from (Some at) is stand (inl (p, is_at, pruned)) = subst (λ o. StampsStand (J ++ Settle who t got out ∷ []) o new) (sym is_at)
          (tell_pruned (J ++ Settle who t got out ∷ []) at p old.stamps.stamps new (rising old.oldest after at p le is is_at) pruned (tell_quiet J (Settle who t got out) at old.stamps.stamps (λ target v. v) stand))

  settled_now : (who : ℕ) (got : Option Got) (out : Outcome) → list_any (settles t) (J ++ Settle who t got out ∷ []) ≡ true
  settled_now who got out = settled_push J (Settle who t got out) t ∙ last (list_any (settles t) J)
    where
      last : (a : Bool) → (a || ((t == t) || false)) ≡ true
      last true = refl
      last false = grind (arith, nat_tests)

  pub closed : (new : Tables) → new.starts ≡ old.starts → length new.settled.items ≡ length old.settled.items → slice_get new.settled.items t ≡ Some true → ((u : ℕ) → (u ≡ t → ⊥) → slice_get new.settled.items u ≡ slice_get old.settled.items u)
      → old.oldest ≤ new.oldest → IsOldest new.settled.items new.oldest → new.pending + 1 ≡ old.pending → StampsLeft old.starts.items old.oldest new.oldest old.stamps.stamps new.stamps.stamps
      → map.len new.stamps.stamps ≤ map.len old.stamps.stamps → new.stamps.limit ≡ old.stamps.limit → vec_capacity new.settled ≡ vec_capacity old.settled
      → (who : ℕ) (got : Option Got) (out : Outcome) → TicketsStand new (J ++ Settle who t got out ∷ [])
  closed new starts_is settled_length settled_this settled_others later oldest pending left fewer limit room who got out = record {
    count = ap (λ v. length v.items) starts_is ∙ h.count ∙ sym same;
    started = λ u. ap (λ v. slice_get v.items u) starts_is ∙ h.started u ∙ ap (option_map (λ (x : Started). x.at)) (sym (start_same J e u refl));
    count_settled = settled_length ∙ h.count_settled ∙ sym same;
    settled = λ u below'. settled u (subst (λ n. u < n) same below') (equal_or_not u);
    oldest = oldest;
    pending = omega (arith, pending, h.pending, reserved_less limits J each who t got out s owed);
    stamps = subst (λ v. StampsStand (J ++ e ∷ []) (slice_get v.items new.oldest) new.stamps.stamps) (sym starts_is) (stamps_left who got out new.oldest new.stamps.stamps later left);
    few = omega (arith, fewer, h.few, length-append J (e ∷ []));
    room_starts = omega (arith, limit, h.room_starts, ap (λ v. vec_capacity v) starts_is);
    room_settled = omega (arith, limit, h.room_settled, room);
  }
    where
      e : Event
      e = Settle who t got out

      same : starts (J ++ e ∷ []) ≡ starts J
      same = starts_push J e ∙ no_more (starts J)

      equal_or_not : (u : ℕ) → (u ≡ t) ⊎ (u ≡ t → ⊥)
      equal_or_not u = from (u == t) refl
        where
          from : (b : Bool) → (u == t) ≡ b → (u ≡ t) ⊎ (u ≡ t → ⊥)
          from true is = inl (grind (arith, nat_tests))
          from false is = inr (λ same. grind (arith, nat_tests))

      not_this : (u : ℕ) → (u ≡ t → ⊥) → (t == u) ≡ false
      not_this u other = from (t == u) refl
        where
          from : (b : Bool) → (t == u) ≡ b → b ≡ false
          from true is = let same : u ≡ t = grind (arith, nat_tests) in absurd (other same)
          from false is = refl

      settled : (u : ℕ) → u < starts J → (u ≡ t) ⊎ (u ≡ t → ⊥) → slice_get new.settled.items u ≡ Some (list_any (settles u) (J ++ e ∷ []))
      settled u lower (inl this) = ap (slice_get new.settled.items) this ∙ settled_this ∙ ap Some (sym (settled_now who got out)) ∙ ap (λ n. Some (list_any (settles n) (J ++ e ∷ []))) (sym this)
      settled u lower (inr other) = settled_others u other ∙ h.settled u lower ∙ ap Some (sym (settled_same J e u (not_this u other)))
