-- What stands for a journal stands for the journal with one more event, where it changes as the event does.
use Rattle.std.proofs.Common.{◌≡◌, ◌⊎◌, inl, inr, ℕ, zero, suc, ◌+◌, ◌<◌, ◌≤◌, ◌==◌, Bool, true, false, not, List, [], ◌∷◌, ◌++◌, length, slice_get, vec_capacity, Option, Some, None, refl, ap, sym, ◌∙◌, subst, arith, length-append}
use Rattle.std.specs.Prelude.{IsSomeAnd, if◌then◌else◌}
use Rattle.std.specs.FinMap as map
use Rattle.std.specs.List.{list_any}
use Rattle.std.specs.Option.{option_map}
use Rattle.std.specs.Global.{Vec}
use Rattle.std.proofs.lemmas.Bool.Decides.{nat_tests}
use Rattle.std.proofs.lemmas.List.Sums.{sum_by_push}
use Rattle.cache_terms.specs.declared.keys.Key.{Key}
use Rattle.cache_terms.specs.declared.keys.Target.{Target}
use Rattle.cache_terms.specs.declared.tags.Tags.{Tags}
use Rattle.cache_terms.specs.declared.events.Limits.{Limits}
use Rattle.cache_terms.specs.declared.events.Event.{Event}
use Rattle.cache_terms.specs.declared.events.Event.TheVariants.{Lookup, Start}
use Rattle.cache_terms.specs.Keys.{Covers}
use Rattle.cache_model.specs.Journal.{Started, start_of, starts, settles, reserved, is_pending, bytes, stored_size, Kept, kept_of, kept_at, IsCover, IsHeld, IsHeldUnder}
use Rattle.cache_model.specs.Legal.{EachFits}
use Rattle.cache_model.proofs.Growth.{slice_get_before, slice_get_end}
use Rattle.cache_model.proofs.Tickets.{start_last, no_start, no_settle}
use Rattle.book_index.specs.declared.key_index.KeyIndex.{KeyIndex}
use Rattle.book_index.specs.declared.tag_index.TagIndex.{TagIndex}
use Rattle.book_index.specs.Positions.{position_at}
use Rattle.book_index.specs.Stamps.{Positions}
use Rattle.book_index.specs.Under.{is_under}
use Rattle.book_index.specs.Telling.{StampsTell, IsNoVoid}
use Rattle.book_index.proofs.Telling.{tell_new, tell_quiet}
use Rattle.book_tables.specs.declared.tables.Tables.{Tables}
use Rattle.book_tables.specs.Pieces.{IsFor, Keyed, Targeted}
use Rattle.book_tables.specs.Halves.{TicketsStand}
use Rattle.book_tables.specs.Standing.{IsHeldFor, IsOldest, StampsStand, StandsFor, IsRegular}
use Rattle.book_tables.proofs.Keeping.{held_push, held_back, held_same, held_one}
use Rattle.book_tables.proofs.Placing.{AreOne, keyed_same, targeted_same}
use Rattle.book_tables.proofs.Ticketing.{start_same, starts_push, settled_same, reserved_more}

-- THE HALVES

pub held_are_one : (J : List Event) → AreOne (IsHeld J)
held_are_one J = record { position = held_one J; piece = held_same J }

for_of : (J : List Event) (key : Key) (scope : Option (List ℕ)) (o : Option ℕ) → IsHeldFor J key scope o → IsFor (IsHeld J) key scope o
for_of J key scope None h = h
for_of J key scope (Some q) h = h

of_for : (J : List Event) (key : Key) (scope : Option (List ℕ)) (o : Option ℕ) → IsFor (IsHeld J) key scope o → IsHeldFor J key scope o
of_for J key scope None h = h
of_for J key scope (Some q) h = h

pub keyed_of : (tables : Tables) (J : List Event) → StandsFor tables J → Keyed tables.keys (IsHeld J)
keyed_of tables J s key scope = for_of J key scope (position_at tables.keys key scope) (s.keys key scope)

pub targeted_of : (tables : Tables) (J : List Event) → StandsFor tables J → Targeted tables.holders (IsHeld J)
targeted_of tables J s = record {
  forth = λ target q is. piece target q (kept_at J q) ((s.holders target q).0 is);
  back = λ target q k h c. (s.holders target q).1 (subst (λ (o : Option Kept). IsSomeAnd o (λ m. IsHeld J q m × Covers target m.key m.tags)) (sym h.kept) (h, c));
}
  where
    piece : (target : Target) (q : ℕ) (o : Option Kept) → IsSomeAnd o (λ k. IsHeld J q k × Covers target k.key k.tags) → (k : Kept) × IsHeld J q k × Covers target k.key k.tags
    piece target q None h = absurd h
    piece target q (Some k) h = (k, h.0, h.1)

pub ticketed_of : (tables : Tables) (J : List Event) → StandsFor tables J → TicketsStand tables J
ticketed_of tables J s = record {
  count = s.count;
  started = s.started;
  count_settled = s.count_settled;
  settled = s.settled;
  oldest = s.oldest;
  pending = s.pending;
  stamps = s.stamps;
  few = s.few;
  room_starts = s.room_starts;
  room_settled = s.room_settled;
}

pub stands_of : (tables : Tables) (J : List Event) → TicketsStand tables J → tables.bytes ≡ bytes J → Keyed tables.keys (IsHeld J) → Targeted tables.holders (IsHeld J) → StandsFor tables J
stands_of tables J s size keyed targeted = record {
  count = s.count;
  started = s.started;
  count_settled = s.count_settled;
  settled = s.settled;
  oldest = s.oldest;
  pending = s.pending;
  bytes = size;
  keys = λ key scope. of_for J key scope (position_at tables.keys key scope) (keyed key scope);
  holders = λ target q. (λ is. under target q (targeted.forth target q is), back target q (kept_at J q));
  stamps = s.stamps;
  few = s.few;
  room_starts = s.room_starts;
  room_settled = s.room_settled;
}
  where
    under : (target : Target) (q : ℕ) → (k : Kept) × IsHeld J q k × Covers target k.key k.tags → IsHeldUnder J target q
    under target q (k, h, c) = subst (λ (o : Option Kept). IsSomeAnd o (λ m. IsHeld J q m × Covers target m.key m.tags)) (sym h.kept) (h, c)

    back : (target : Target) (q : ℕ) (o : Option Kept) → IsSomeAnd o (λ k. IsHeld J q k × Covers target k.key k.tags) → is_under tables.holders target q ≡ true
    back target q None h = absurd h
    back target q (Some k) h = targeted.back target q k h.0 h.1

-- AN EVENT THAT KEEPS AND COVERS NOTHING

pub record IsIdle (e : Event) : Type 0 where
  pub keeps : (K : List Event) → kept_of K e ≡ None
  pub covers : (key : Key) (tags : Tags) → IsCover e key tags → ⊥

pub idle_forth : (limits : Limits) (J : List Event) (e : Event) → EachFits limits J → IsIdle e → (q : ℕ) (k : Kept) → IsHeld J q k → IsHeld (J ++ e ∷ []) q k
idle_forth limits J e each idle q k h = held_push limits J e each q k h (record {
  apart = λ m keeps key scope. cc (keeps, idle.keeps (J ++ e ∷ []));
  uncovered = idle.covers k.key k.tags;
})

pub idle_back : (limits : Limits) (J : List Event) (e : Event) → EachFits limits J → IsIdle e → (q : ℕ) (k : Kept) → IsHeld (J ++ e ∷ []) q k → IsHeld J q k
idle_back limits J e each idle q k h = elim (held_back limits J e each q k h) [
  | inl was ↦ was.0
  | inr new ↦ absurd (cc (new.1, idle.keeps (J ++ e ∷ [])))
]

pub keyed_idle : (limits : Limits) (J : List Event) (e : Event) → EachFits limits J → IsIdle e → (keys : KeyIndex) → Keyed keys (IsHeld J) → Keyed keys (IsHeld (J ++ e ∷ []))
keyed_idle limits J e each idle keys = keyed_same keys (IsHeld J) (IsHeld (J ++ e ∷ [])) (idle_forth limits J e each idle) (idle_back limits J e each idle)

pub targeted_idle : (limits : Limits) (J : List Event) (e : Event) → EachFits limits J → IsIdle e → (holders : TagIndex) → Targeted holders (IsHeld J) → Targeted holders (IsHeld (J ++ e ∷ []))
targeted_idle limits J e each idle holders = targeted_same holders (IsHeld J) (IsHeld (J ++ e ∷ [])) (idle_forth limits J e each idle) (idle_back limits J e each idle)

no_more : (n : ℕ) → n + 0 ≡ n
no_more n = omega arith

pub bytes_more : (J : List Event) (e : Event) → bytes (J ++ e ∷ []) ≡ bytes J + stored_size e
bytes_more J e = sum_by_push stored_size J e

one_more : (J : List Event) (e : Event) → length (J ++ e ∷ []) ≡ length J + 1
one_more J e = length-append J (e ∷ [])

-- A LOOKUP

stamps_quiet : (J : List Event) (e : Event) (o : Option ℕ) (stamps : Positions) → IsNoVoid e → StampsStand J o stamps → StampsStand (J ++ e ∷ []) o stamps
stamps_quiet J e None stamps quiet h = h
stamps_quiet J e (Some at) stamps quiet h = tell_quiet J e at stamps quiet h

pub lookup_stands : (tables : Tables) (J : List Event) (who : ℕ) (key : Key) (id : Option (List ℕ)) (now : ℕ) (hit : Option ℕ)
    → IsRegular J → StandsFor tables J → StandsFor tables (J ++ Lookup who key id now hit ∷ [])
lookup_stands tables J who key id now hit (limits, each) s =
    stands_of tables (J ++ Lookup who key id now hit ∷ []) ticketed (s.bytes ∙ sym (bytes_more J (Lookup who key id now hit) ∙ no_more (bytes J)))
    (keyed_idle limits J (Lookup who key id now hit) each idle tables.keys (keyed_of tables J s)) (targeted_idle limits J (Lookup who key id now hit) each idle tables.holders (targeted_of tables J s))
  where
    idle : IsIdle (Lookup who key id now hit)
    idle = record { keeps = λ K. refl; covers = λ k tags h. h }

    same : starts (J ++ Lookup who key id now hit ∷ []) ≡ starts J
    same = starts_push J (Lookup who key id now hit) ∙ no_more (starts J)

    ticketed : TicketsStand tables (J ++ Lookup who key id now hit ∷ [])
    ticketed = record {
      count = s.count ∙ sym same;
      started = λ t. s.started t ∙ ap (option_map (λ (x : Started). x.at)) (sym (start_same J (Lookup who key id now hit) t refl));
      count_settled = s.count_settled ∙ sym same;
      settled = λ t below. s.settled t (subst (λ (n : ℕ). t < n) same below) ∙ ap Some (sym (settled_same J (Lookup who key id now hit) t refl));
      oldest = s.oldest;
      pending = s.pending ∙ sym (reserved_more J (Lookup who key id now hit) (λ t. refl) ∙ no_more (reserved J));
      stamps = stamps_quiet J (Lookup who key id now hit) (slice_get tables.starts.items tables.oldest) tables.stamps.stamps (λ t h. h) s.stamps;
      few = omega (arith, s.few, one_more J (Lookup who key id now hit));
      room_starts = s.room_starts;
      room_settled = s.room_settled;
    }

-- A START

slice_get_other : {X : Type 0} (xs : List X) (y : X) (t : ℕ) → (t ≡ length xs → ⊥) → slice_get (xs ++ y ∷ []) t ≡ slice_get xs t
slice_get_other [] y zero other = absurd (other refl)
slice_get_other [] y (suc t) other = refl
slice_get_other (x ∷ xs) y zero other = refl
slice_get_other (x ∷ xs) y (suc t) other = slice_get_other xs y t (λ same. other (ap suc same))

equal_or_not : (t n : ℕ) → (t ≡ n) ⊎ (t ≡ n → ⊥)
equal_or_not t n = from (t == n) refl
  where
    from : (b : Bool) → (t == n) ≡ b → (t ≡ n) ⊎ (t ≡ n → ⊥)
    from true is = inl (grind (arith, nat_tests))
    from false is = inr (λ same. grind (arith, nat_tests))

oldest_more : (settled : List Bool) (oldest : ℕ) → IsOldest settled oldest → IsOldest (settled ++ false ∷ []) oldest
oldest_more settled oldest o = record {
  within = omega (arith, o.within, length-append settled (false ∷ []));
  below = λ t lower. slice_get_before settled (false ∷ []) true t (o.below t lower);
  first = λ is. elim (equal_or_not oldest (length settled)) [
    | inl same ↦ absurd (cc (sym (slice_get_end settled [] false) ∙ ap (slice_get (settled ++ false ∷ [])) (sym same) ∙ is))
    | inr other ↦ o.first (sym (slice_get_other settled false oldest other) ∙ is)
  ];
}

not_other : (n t : ℕ) → (t ≡ n → ⊥) → (n == t) ≡ false
not_other n t other = from (n == t) refl
  where
    from : (b : Bool) → (n == t) ≡ b → b ≡ false
    from true is = let same : t ≡ n = grind (arith, nat_tests) in absurd (other same)
    from false is = refl

past_end : {X : Type 0} (xs : List X) (i : ℕ) → slice_get xs i ≡ None → length xs ≤ i
past_end [] i h = omega arith
past_end (x ∷ xs) zero h = absurd (cc h)
past_end (x ∷ xs) (suc i) h = omega (arith, past_end xs i h)

pub start_stands : (old : Tables) (J : List Event) (starts_new : Vec ℕ) (settled_new : Vec Bool) (who : ℕ) (key : Key) (id : Option (List ℕ)) (now : ℕ)
    → IsRegular J → StandsFor old J → starts_new.items ≡ old.starts.items ++ length J ∷ [] → settled_new.items ≡ old.settled.items ++ false ∷ []
    → vec_capacity old.starts ≤ vec_capacity starts_new → vec_capacity old.settled ≤ vec_capacity settled_new
    → StandsFor (record old { starts = starts_new; settled = settled_new; pending = old.pending + 1 }) (J ++ Start who (starts J) key id now ∷ [])
start_stands old J starts_new settled_new who key id now (limits, each) s starts_is settled_is starts_room settled_room =
    stands_of new (J ++ e ∷ []) ticketed (s.bytes ∙ sym (bytes_more J e ∙ no_more (bytes J)))
    (keyed_idle limits J e each idle old.keys (keyed_of old J s)) (targeted_idle limits J e each idle old.holders (targeted_of old J s))
  where
    e : Event
    e = Start who (starts J) key id now

    new : Tables
    new = record old { starts = starts_new; settled = settled_new; pending = old.pending + 1 }

    idle : IsIdle e
    idle = record { keeps = λ K. refl; covers = λ k tags h. h }

    started_last : start_of (J ++ e ∷ []) (starts J) ≡ Some (record { who = who; key = key; id = id; since = now; at = 0 + length J })
    started_last = start_last J 0 who (starts J) key id now (no_start limits J each)

    zero_more : 0 + length J ≡ length J
    zero_more = omega arith

    started : (t : ℕ) → (t ≡ starts J) ⊎ (t ≡ starts J → ⊥) → slice_get starts_new.items t ≡ option_map (λ x. x.at) (start_of (J ++ e ∷ []) t)
    started t (inl same) = ap (λ l. slice_get l t) starts_is ∙ ap (slice_get (old.starts.items ++ length J ∷ [])) (same ∙ sym s.count) ∙ slice_get_end old.starts.items [] (length J)
        ∙ ap Some (sym zero_more) ∙ sym (ap (option_map (λ (x : Started). x.at)) started_last) ∙ ap (λ n. option_map (λ (x : Started). x.at) (start_of (J ++ e ∷ []) n)) (sym same)
    started t (inr other) = ap (λ l. slice_get l t) starts_is ∙ slice_get_other old.starts.items (length J) t (λ same. other (same ∙ s.count)) ∙ s.started t
        ∙ ap (option_map (λ (x : Started). x.at)) (sym (start_same J e t (not_other (starts J) t other)))

    settled : (t : ℕ) → t < starts (J ++ e ∷ []) → (t ≡ starts J) ⊎ (t ≡ starts J → ⊥) → slice_get settled_new.items t ≡ Some (list_any (settles t) (J ++ e ∷ []))
    settled t below (inl same) = ap (λ l. slice_get l t) settled_is ∙ ap (slice_get (old.settled.items ++ false ∷ [])) (same ∙ sym s.count_settled) ∙ slice_get_end old.settled.items [] false
        ∙ ap Some (sym (settled_same J e t refl ∙ ap (λ n. list_any (settles n) J) same ∙ no_settle limits J each))
    settled t below (inr other) =
        let lower : t < starts J = less t other (subst (λ n. t < n) (starts_push J e) below) in
        ap (λ l. slice_get l t) settled_is ∙ slice_get_other old.settled.items false t (λ same. other (same ∙ s.count_settled)) ∙ s.settled t lower ∙ ap Some (sym (settled_same J e t refl))
      where
        less : (t : ℕ) → (t ≡ starts J → ⊥) → t < starts J + 1 → t < starts J
        less t other below = elim (cases t) [ inl lower ↦ lower | inr rest ↦ elim rest [ inl same ↦ absurd (other same) | inr over ↦ absurd (omega (arith, over, below)) ] ]
          where
            cases : (t : ℕ) → (t < starts J) ⊎ ((t ≡ starts J) ⊎ (starts J < t))
            cases t = grind arith

    stamps : (o : Option ℕ) → slice_get old.starts.items old.oldest ≡ o → StampsStand J o old.stamps.stamps → StampsStand (J ++ e ∷ []) (slice_get starts_new.items old.oldest) old.stamps.stamps
    stamps (Some at) is h = subst (λ o. StampsStand (J ++ e ∷ []) o old.stamps.stamps) (sym (ap (λ l. slice_get l old.oldest) starts_is ∙ slice_get_before old.starts.items (length J ∷ []) at old.oldest is)) (tell_quiet J e at old.stamps.stamps (λ t h'. h') h)
    stamps None is h =
        let last : old.oldest ≡ length old.starts.items = omega (arith, past_end old.starts.items old.oldest is, s.oldest.within, s.count, s.count_settled) in
        let at : slice_get starts_new.items old.oldest ≡ Some (length J) = ap (λ l. slice_get l old.oldest) starts_is ∙ ap (slice_get (old.starts.items ++ length J ∷ [])) last ∙ slice_get_end old.starts.items [] (length J) in
        let tells : StampsTell (J ++ e ∷ []) (length J) map.empty = tell_new (J ++ e ∷ []) (length J) (omega (arith, one_more J e)) in
        subst (λ o. StampsStand (J ++ e ∷ []) o old.stamps.stamps) (sym at) (subst (λ m. StampsTell (J ++ e ∷ []) (length J) m) (sym h) tells)

    more : starts (J ++ e ∷ []) ≡ starts J + 1
    more = starts_push J e

    pending : is_pending J e ≡ true
    pending = ap not (no_settle limits J each)

    ticketed : TicketsStand new (J ++ e ∷ [])
    ticketed = record {
      count = ap length starts_is ∙ length-append old.starts.items (length J ∷ []) ∙ ap (λ n. n + 1) s.count ∙ sym more;
      started = λ t. started t (equal_or_not t (starts J));
      count_settled = ap length settled_is ∙ length-append old.settled.items (false ∷ []) ∙ ap (λ n. n + 1) s.count_settled ∙ sym more;
      settled = λ t below. settled t below (equal_or_not t (starts J));
      oldest = subst (λ l. IsOldest l old.oldest) (sym settled_is) (oldest_more old.settled.items old.oldest s.oldest);
      pending = ap (λ n. n + 1) s.pending ∙ sym (reserved_more J e (λ t. refl) ∙ ap (λ b. reserved J + (if b then 1 else 0)) pending);
      stamps = stamps (slice_get old.starts.items old.oldest) refl s.stamps;
      few = omega (arith, s.few, one_more J e);
      room_starts = omega (arith, s.room_starts, starts_room);
      room_settled = omega (arith, s.room_settled, settled_room);
    }
