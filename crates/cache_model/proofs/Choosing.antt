-- Journals that show one caller the same give it the same choices: the masked journal, and the journal that goes on with
-- lookups.
use Rattle.std.proofs.Common.{◌≡◌, ◌⊎◌, inl, inr, ℕ, ◌+◌, Bool, true, false, not, List, [], ◌∷◌, map, slice_get, Option, Some, None, refl, ap, sym, ◌∙◌, subst}
use Rattle.std.specs.Prelude.{IsSomeAnd, if◌then◌else◌, ◌==◌}
use Rattle.std.specs.Option.{option_map, option_and_then, option_map_or}
use Rattle.std.proofs.lemmas.Option.{slice_get-map}
use Rattle.std.proofs.lemmas.Cmp.{nat_list_eq_equiv}
use Rattle.cache_terms.specs.declared.keys.Key.{Key}
use Rattle.cache_terms.specs.declared.tags.Tags.{Tags}
use Rattle.cache_terms.specs.declared.events.Event.{Event}
use Rattle.cache_terms.specs.declared.events.Event.TheVariants.{Lookup, Start, Settle, Invalidate}
use Rattle.cache_terms.specs.declared.events.Outcome.TheVariants as outcome
use Rattle.cache_model.specs.Journal.{Started, start_from, start_of, Kept, kept_by, kept_of, kept_at, IsCover, CoveredAt, IsHeld, Serves, NoneServes, IsServed, IsChoice}
use Rattle.cache_model.specs.Masked.{is_foreign, keeps_foreign, masked_event, masked}

-- the journals keep the same for this caller, and are covered alike
pub record SameFor (id : Option (List ℕ)) (J K : List Event) : Type 0 where
  pub forth : (q : ℕ) (k : Kept) → kept_at J q ≡ Some k → is_foreign id k.scope ≡ false → kept_at K q ≡ Some k
  pub back : (q : ℕ) (k : Kept) → kept_at K q ≡ Some k → is_foreign id k.scope ≡ false → kept_at J q ≡ Some k
  pub cover_forth : (key : Key) (tags : Tags) (p : ℕ) → CoveredAt J key tags p → CoveredAt K key tags p
  pub cover_back : (key : Key) (tags : Tags) (p : ℕ) → CoveredAt K key tags p → CoveredAt J key tags p

pub same_sym : (id : Option (List ℕ)) (J K : List Event) → SameFor id J K → SameFor id K J
same_sym id J K s = record { forth = s.back; back = s.forth; cover_forth = s.cover_back; cover_back = s.cover_forth }

held_same : (id : Option (List ℕ)) (J K : List Event) (q : ℕ) (k : Kept) → SameFor id J K → is_foreign id k.scope ≡ false → IsHeld J q k → IsHeld K q k
held_same id J K q k s seen h = record {
  kept = s.forth q k h.kept seen;
  last = λ p m above at key scope. h.last p m above (s.back p m at (ap (is_foreign id) scope ∙ seen)) key scope;
  uncovered = λ p cover. h.uncovered p (cover.0, s.cover_back k.key k.tags p cover.1);
}

serves_same : (id : Option (List ℕ)) (J K : List Event) (key : Key) (scope : Option (List ℕ)) (now q : ℕ) → SameFor id J K → is_foreign id scope ≡ false → Serves J key scope now q → Serves K key scope now q
serves_same id J K key scope now q s seen h = record {
  kept = h.kept;
  held = held_same id J K q h.kept s (ap (is_foreign id) h.scope_is ∙ seen) h.held;
  key_is = h.key_is;
  scope_is = h.scope_is;
  fresh = h.fresh;
}

none_same : (id : Option (List ℕ)) (J K : List Event) (key : Key) (scope : Option (List ℕ)) (now : ℕ) → SameFor id J K → is_foreign id scope ≡ false → NoneServes J key scope now → NoneServes K key scope now
none_same id J K key scope now s seen none q h = none q (serves_same id K J key scope now q (same_sym id J K s) seen h)

is_served_same : (id : Option (List ℕ)) (J K : List Event) (key : Key) (scope : Option (List ℕ)) (now : ℕ) (hit : Option ℕ) → SameFor id J K → is_foreign id scope ≡ false → IsServed J key scope now hit → IsServed K key scope now hit
is_served_same id J K key scope now None s seen h = none_same id J K key scope now s seen h
is_served_same id J K key scope now (Some q) s seen h = serves_same id J K key scope now q s seen h

own_same : (id : Option (List ℕ)) (J K : List Event) (key : Key) (scope : Option (List ℕ)) (now : ℕ) (hit : Option ℕ) → SameFor id J K → is_foreign id scope ≡ false → IsSomeAnd hit (Serves J key scope now) → IsSomeAnd hit (Serves K key scope now)
own_same id J K key scope now None s seen h = absurd h
own_same id J K key scope now (Some q) s seen h = serves_same id J K key scope now q s seen h

-- a caller's own is no other's
pub own_is_seen : (id : List ℕ) → is_foreign (Some id) (Some id) ≡ false
own_is_seen id = ap not (nat_list_eq_equiv.refl id)

pub choice_same : (id : Option (List ℕ)) (J K : List Event) (key : Key) (now : ℕ) (hit : Option ℕ) → SameFor id J K → IsChoice J key id now hit → IsChoice K key id now hit
choice_same None J K key now hit s h = is_served_same None J K key None now hit s refl h
choice_same (Some id) J K key now hit s (inl h) = inl (own_same (Some id) J K key (Some id) now hit s (own_is_seen id) h)
choice_same (Some id) J K key now hit s (inr h) = inr (none_same (Some id) J K key (Some id) now s (own_is_seen id) h.0, is_served_same (Some id) J K key None now hit s refl h.1)

-- what an event keeps is a matter of the Starts alone
kept_of_same : (J K : List Event) (e : Event) → ((t : ℕ) → start_of J t ≡ start_of K t) → kept_of J e ≡ kept_of K e
kept_of_same J K (Settle who t (Some got) outcome.Stored) same = ap (option_map (kept_by got)) (same t)
kept_of_same J K (Settle who t None out) same = refl
kept_of_same J K (Settle who t (Some got) (outcome.Void p)) same = refl
kept_of_same J K (Settle who t (Some got) (outcome.NoRoom a b c)) same = refl
kept_of_same J K (Settle who t (Some got) (outcome.Unstorable w)) same = refl
kept_of_same J K (Settle who t (Some got) outcome.Failed) same = refl
kept_of_same J K (Settle who t (Some got) (outcome.Over a b)) same = refl
kept_of_same J K (Settle who t (Some got) outcome.Bypassed) same = refl
kept_of_same J K (Settle who t (Some got) outcome.Memory) same = refl
kept_of_same J K (Lookup who key id now hit) same = refl
kept_of_same J K (Start who t key id now) same = refl
kept_of_same J K (Invalidate who target count) same = refl

-- the masked journal has the same Starts
start_masked : (J0 : List Event) (id : Option (List ℕ)) (J : List Event) (at t : ℕ) → start_from at (map (masked_event J0 id) J) t ≡ start_from at J t
start_masked J0 id [] at t = refl
start_masked J0 id (Start who ticket key i now ∷ J) at t = ap (λ (o : Option Started). if ticket == t then Some (record { who = who; key = key; id = i; since = now; at = at }) else o) (start_masked J0 id J (at + 1) t)
start_masked J0 id (Lookup who key i now hit ∷ J) at t = start_masked J0 id J (at + 1) t
start_masked J0 id (Invalidate who target count ∷ J) at t = start_masked J0 id J (at + 1) t
start_masked J0 id (Settle who ticket got out ∷ J) at t = either (keeps_foreign J0 id (Settle who ticket got out)) (start_masked J0 id J (at + 1) t)
  where
    either : (b : Bool) → start_from (at + 1) (map (masked_event J0 id) J) t ≡ start_from (at + 1) J t
        → start_from at ((if b then Settle who ticket None outcome.Failed else Settle who ticket got out) ∷ map (masked_event J0 id) J) t ≡ start_from (at + 1) J t
    either true h = h
    either false h = h

-- the event stays as it is, or it keeps another caller's own and nothing is left of it
masked_cases : (J : List Event) (id : Option (List ℕ)) (e : Event) → ((keeps_foreign J id e ≡ false) × (masked_event J id e ≡ e)) ⊎ ((keeps_foreign J id e ≡ true) × ((K : List Event) → kept_of K (masked_event J id e) ≡ None))
masked_cases J id (Lookup who key i now hit) = inl (refl, refl)
masked_cases J id (Start who t key i now) = inl (refl, refl)
masked_cases J id (Invalidate who target count) = inl (refl, refl)
masked_cases J id (Settle who t got out) = from (keeps_foreign J id (Settle who t got out)) refl
  where
    from : (b : Bool) → keeps_foreign J id (Settle who t got out) ≡ b
        → ((keeps_foreign J id (Settle who t got out) ≡ false) × ((if keeps_foreign J id (Settle who t got out) then Settle who t None outcome.Failed else Settle who t got out) ≡ Settle who t got out)) ⊎ ((keeps_foreign J id (Settle who t got out) ≡ true) × ((K : List Event) → kept_of K (if keeps_foreign J id (Settle who t got out) then Settle who t None outcome.Failed else Settle who t got out) ≡ None))
    from false is = inl (is, ap (λ (b : Bool). if b then Settle who t None outcome.Failed else Settle who t got out) is)
    from true is = inr (is, λ K. ap (λ (b : Bool). kept_of K (if b then Settle who t None outcome.Failed else Settle who t got out)) is)

cover_masked : (J : List Event) (id : Option (List ℕ)) (e : Event) (key : Key) (tags : Tags) → IsCover e key tags → IsCover (masked_event J id e) key tags
cover_masked J id (Invalidate who target count) key tags h = h
cover_masked J id (Lookup who k i now hit) key tags h = absurd h
cover_masked J id (Start who t k i now) key tags h = absurd h
cover_masked J id (Settle who t got out) key tags h = absurd h

cover_unmasked : (J : List Event) (id : Option (List ℕ)) (e : Event) (key : Key) (tags : Tags) → IsCover (masked_event J id e) key tags → IsCover e key tags
cover_unmasked J id (Invalidate who target count) key tags h = h
cover_unmasked J id (Lookup who k i now hit) key tags h = absurd h
cover_unmasked J id (Start who t k i now) key tags h = absurd h
cover_unmasked J id (Settle who t got out) key tags h = either (keeps_foreign J id (Settle who t got out)) h
  where
    either : (b : Bool) → IsCover (if b then Settle who t None outcome.Failed else Settle who t got out) key tags → ⊥
    either true x = x
    either false x = x

-- the masked journal shows the caller the same
pub masked_same : (J : List Event) (id : Option (List ℕ)) → SameFor id J (masked J id)
masked_same J id = record { forth = forth; back = back; cover_forth = cover_forth; cover_back = cover_back }
  where
    M : List Event
    M = map (masked_event J id) J

    starts_same : (t : ℕ) → start_of (map (masked_event J id) J) t ≡ start_of J t
    starts_same t = start_masked J id J 0 t

    keeps : (e : Event) → kept_of (map (masked_event J id) J) e ≡ kept_of J e
    keeps e = kept_of_same (map (masked_event J id) J) J e starts_same

    forth_at : (k : Kept) → is_foreign id k.scope ≡ false → (o : Option Event) → option_and_then (kept_of J) o ≡ Some k → option_and_then (kept_of (map (masked_event J id) J)) (option_map (masked_event J id) o) ≡ Some k
    forth_at k seen None h = absurd (cc h)
    forth_at k seen (Some e) h = elim (masked_cases J id e) [
      | inl stays ↦ ap (kept_of (map (masked_event J id) J)) stays.1 ∙ keeps e ∙ h
      | inr hidden ↦ absurd (cc (sym hidden.0 ∙ ap (λ (o : Option Kept). option_map_or (λ (m : Kept). is_foreign id m.scope) o false) h ∙ seen))
    ]

    back_at : (k : Kept) → (o : Option Event) → option_and_then (kept_of (map (masked_event J id) J)) (option_map (masked_event J id) o) ≡ Some k → option_and_then (kept_of J) o ≡ Some k
    back_at k None h = absurd (cc h)
    back_at k (Some e) h = elim (masked_cases J id e) [
      | inl stays ↦ sym (keeps e) ∙ ap (kept_of (map (masked_event J id) J)) (sym stays.1) ∙ h
      | inr hidden ↦ absurd (cc (sym h ∙ hidden.1 (map (masked_event J id) J)))
    ]

    forth : (q : ℕ) (k : Kept) → kept_at J q ≡ Some k → is_foreign id k.scope ≡ false → kept_at (map (masked_event J id) J) q ≡ Some k
    forth q k h seen = ap (option_and_then (kept_of (map (masked_event J id) J))) (slice_get-map (masked_event J id) J q) ∙ forth_at k seen (slice_get J q) h

    back : (q : ℕ) (k : Kept) → kept_at (map (masked_event J id) J) q ≡ Some k → is_foreign id k.scope ≡ false → kept_at J q ≡ Some k
    back q k h seen = back_at k (slice_get J q) (sym (ap (option_and_then (kept_of (map (masked_event J id) J))) (slice_get-map (masked_event J id) J q)) ∙ h)

    cover_at : (key : Key) (tags : Tags) (o : Option Event) → IsSomeAnd o (λ e. IsCover e key tags) → IsSomeAnd (option_map (masked_event J id) o) (λ e. IsCover e key tags)
    cover_at key tags None h = absurd h
    cover_at key tags (Some e) h = cover_masked J id e key tags h

    uncover_at : (key : Key) (tags : Tags) (o : Option Event) → IsSomeAnd (option_map (masked_event J id) o) (λ e. IsCover e key tags) → IsSomeAnd o (λ e. IsCover e key tags)
    uncover_at key tags None h = absurd h
    uncover_at key tags (Some e) h = cover_unmasked J id e key tags h

    cover_forth : (key : Key) (tags : Tags) (p : ℕ) → CoveredAt J key tags p → CoveredAt (map (masked_event J id) J) key tags p
    cover_forth key tags p h = subst (λ (o : Option Event). IsSomeAnd o (λ e. IsCover e key tags)) (sym (slice_get-map (masked_event J id) J p)) (cover_at key tags (slice_get J p) h)

    cover_back : (key : Key) (tags : Tags) (p : ℕ) → CoveredAt (map (masked_event J id) J) key tags p → CoveredAt J key tags p
    cover_back key tags p h = uncover_at key tags (slice_get J p) (subst (λ (o : Option Event). IsSomeAnd o (λ e. IsCover e key tags)) (slice_get-map (masked_event J id) J p) h)

-- the choice in the masked journal is the choice in the journal
pub choice_masked : (J : List Event) (id : Option (List ℕ)) (key : Key) (now : ℕ) (hit : Option ℕ) → IsChoice J key id now hit → IsChoice (masked J id) key id now hit
choice_masked J id key now hit h = choice_same id J (masked J id) key now hit (masked_same J id) h

pub choice_unmasked : (J : List Event) (id : Option (List ℕ)) (key : Key) (now : ℕ) (hit : Option ℕ) → IsChoice (masked J id) key id now hit → IsChoice J key id now hit
choice_unmasked J id key now hit h = choice_same id (masked J id) J key now hit (same_sym id J (masked J id) (masked_same J id)) h
