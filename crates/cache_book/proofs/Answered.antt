-- No call is stuck. Nothing has to be decided for that: what can't be missing is said by a double negation.
use Rattle.std.proofs.Common.{◌≡◌, ◌≢◌, ◌⊎◌, inl, inr, ℕ, zero, suc, ◌+◌, ◌*◌, ◌<◌, ◌≤◌, ◌==◌, Bool, true, false, List, [], ◌∷◌, ◌++◌, length, slice_get, get_or, Option, Some, None, refl, arith, subst}
use Rattle.std.specs.Prelude.{MatchBool, IsSomeAnd, nat_le, nat_lt, if◌then◌else◌, is_some, min, ◌^◌, ◌-◌}
use Rattle.std.proofs.lemmas.Bool.Decides.{nat_tests}
use Rattle.std.proofs.lemmas.Option.{slice_get_cases}
use Rattle.cache_terms.specs.declared.keys.Key.{Key}
use Rattle.cache_terms.specs.declared.keys.Target.{Target}
use Rattle.cache_terms.specs.declared.tags.Tags.{Tags}
use Rattle.cache_terms.specs.declared.events.Limits.{Limits}
use Rattle.cache_terms.specs.declared.events.Event.{Event}
use Rattle.cache_terms.specs.declared.events.Event.TheVariants as event
use Rattle.cache_terms.specs.declared.events.Mark.{Mark}
use Rattle.cache_terms.specs.declared.events.Mark.TheVariants as mark
use Rattle.cache_terms.specs.declared.events.Outcome.{Outcome}
use Rattle.cache_terms.specs.declared.events.Outcome.TheVariants as outcome
use Rattle.cache_terms.specs.declared.reasons.Why.{Why}
use Rattle.cache_terms.specs.Keys.{key_bytes}
use Rattle.cache_terms.specs.Offers.{offer_size, why_of}
use Rattle.cache_book.specs.declared.answers.Settled.{Settled}
use Rattle.cache_book.specs.declared.answers.Tally as tally
use Rattle.cache_book.specs.declared.answers.Turned.{Turned}
use Rattle.cache_book.specs.declared.answers.Turned.TheVariants as turn
use Rattle.cache_book.specs.declared.answers.Voided as voided
use Rattle.cache_book.specs.declared.found.Found.{Found}
use Rattle.cache_book.specs.declared.found.Found.TheVariants as found
use Rattle.cache_book.specs.declared.permit.Report.{Report}
use Rattle.cache_book.specs.declared.permit.Report.TheVariants as report
use Rattle.cache_model.specs.Journal.{Started, Kept, kept_at, remaining, starts, bytes, reserved, IsCover, CoversAfter, CoveredAt, IsLast, IsHeldUnder, IsServed, IsChoice, IsCount}
use Rattle.cache_model.specs.Soundness.{IsSound}
use Rattle.cache_model.specs.Legal.{IsLegal, IsDue, IsDueBy, due_after}
use Rattle.cache_model.specs.State.{State, IsLegalState, begun, turned}
use Rattle.cache_book.specs.Permits.{Pinned, Granted}
use Rattle.cache_book.specs.Looking.{granted, Asked, AskedAll, LooksBy, bypass_mark, bypassed}
use Rattle.cache_book.specs.Settling.{got_by, got_of, MayBy, IsOwed, Appends, Leaves, SettlesBy, probes_after}
use Rattle.cache_book.specs.Voiding.{VoidsBy, turning, tally_of}
use Rattle.cache_book.specs.Calls.{Call, Begin, Look, Settle, Invalidate, Tally, Begun, Looked, Closed, Voided, Tallied, IsWantOfMemory, MayCall, IsStuck}
use Rattle.cache_model.proofs.Sound.{sound_of}
use Rattle.cache_book.proofs.Asking.{asked_legal, asked_room}
use Rattle.cache_book.proofs.Stepping.{room_of_look}

-- A GREATEST NUMBER, AND A COUNT

-- there is a greatest number, or none, where the property has a bound
last_stands : (P : ℕ → Type 0) (n : ℕ) → ((p : ℕ) → P p → p < n) → ((o : Option ℕ) → IsLast P o → ⊥) → ⊥
last_stands P zero below none = none None (λ p has. absurd (let lt : p < 0 = below p has in omega (arith, lt)))
last_stands P (suc n) below none = last_stands P n lower none
  where
    lower : (p : ℕ) → P p → p < n
    lower p has = from (p == n) refl
      where
        from : (b : Bool) → (p == n) ≡ b → p < n
        from true is =
            let same : p ≡ n = grind (arith, nat_tests) in
            absurd (none (Some n) (subst P same has, λ q above there. let lt : q < suc n = below q there in omega (arith, lt, above)))
        from false is = let lt : p < suc n = below p has in grind (arith, nat_tests)

count_stands : (P : ℕ → Type 0) (n : ℕ) → ((c : ℕ) → IsCount P n c → ⊥) → ⊥
count_stands P zero none = none 0 refl
count_stands P (suc n) none = count_stands P n (λ d counted. none d (inr (λ has. none (d + 1) (inl (has, (d, counted, refl))), counted)))

-- A LOOK

served_stands : (J : List Event) (key : Key) (scope : Option (List ℕ)) (now : ℕ) → ((hit : Option ℕ) → IsServed J key scope now hit → ⊥) → ⊥
served_stands J key scope now none = none None (λ q serves. none (Some q) serves)

choice_stands : (J : List Event) (key : Key) (id : Option (List ℕ)) (now : ℕ) → ((hit : Option ℕ) → IsChoice J key id now hit → ⊥) → ⊥
choice_stands J key None now none = served_stands J key None now none
choice_stands J key (Some id) now none = served_stands J key None now (λ hit served. none hit (inr (λ q own. none (Some q) (inl own), served)))

-- what is chosen is kept
chosen_kept : (J : List Event) (key : Key) (id : Option (List ℕ)) (now q : ℕ) → IsChoice J key id now (Some q) → (k : Kept) × (kept_at J q ≡ Some k)
chosen_kept J key None now q serves = (serves.kept, serves.held.kept)
chosen_kept J key (Some id) now q (inl own) = (own.kept, own.held.kept)
chosen_kept J key (Some id) now q (inr public) = (public.1.kept, public.1.held.kept)

value_there : (o : Option (List ℕ)) → is_some o ≡ true → (v : List ℕ) × (o ≡ Some v)
value_there None some = absurd (cc some)
value_there (Some v) some = (v, refl)

asked_stands : (pass : Pinned) (id : Option (List ℕ)) (now : ℕ) (key : Key) (J : List Event) → IsSound J → ((a : Found) (K : List Event) → Asked pass id now key J a K → ⊥) → ⊥
asked_stands pass id now key J sound none = by_width (nat_le (key_bytes key) 16384) refl
  where
    by_choice : key_bytes key ≤ 16384 → (hit : Option ℕ) → IsChoice J key id now hit → ⊥
    by_choice narrow None choice = none
        (found.Miss (length J) (granted pass id (mark.Ticket (starts J)) key))
        (J ++ event.Lookup pass.who key id now None ∷ event.Start pass.who (starts J) key id now ∷ [])
        (record { narrow = narrow; choice = choice; lookup_is = refl; permit_is = refl; after = refl })
    by_choice narrow (Some q) choice =
        let kept = chosen_kept J key id now q choice in
        let value = value_there (kept.0).value (sound.value q (kept.0) kept.1) in
        none
        (found.Hit (length J) q (value.0) (remaining (kept.0) now) (kept.0).verdict.private)
        (J ++ event.Lookup pass.who key id now (Some q) ∷ [])
        (record { narrow = narrow; choice = choice; kept = kept.0; kept_is = kept.1; lookup_is = refl; value_is = value.1; left_is = refl; private_is = refl; after = refl })

    by_width : (b : Bool) → nat_le (key_bytes key) 16384 ≡ b → ⊥
    by_width true is =
        let narrow : key_bytes key ≤ 16384 = grind (arith, nat_tests) in
        choice_stands J key id now (λ hit choice. by_choice narrow hit choice)
    by_width false is =
        let wide : 16384 < key_bytes key = grind (arith, nat_tests) in
        none (found.Bypass (granted pass id (mark.Wide (min (key_bytes key) (2 ^ 64 - 1)) 16384) key)) J (record { wide = wide; permit_is = refl; after = refl })

asks_stand : (limits : Limits) (pass : Pinned) (id : Option (List ℕ)) (now : ℕ) (keys : List Key) (J : List Event) → IsLegal limits J → length J + reserved J + 3 * length keys ≤ limits.events → ((answers : List Found) (K : List Event) → AskedAll pass id now keys J answers K → ⊥) → ⊥
asks_stand limits pass id now [] J legal room none = none [] J refl
asks_stand limits pass id now (k ∷ keys) J legal room none = asked_stands pass id now k J (sound_of limits J legal.each) (λ a M one.
    asks_stand limits pass id now keys M (asked_legal limits pass id now k J a M legal (omega (arith, room)) one) (omega (arith, room, asked_room pass id now k J a M one)) (λ answers K all. none (a ∷ answers) K (M, one, all)))

looks_stand : (how : Option Mark) (old : State) (pass : Pinned) (id : Option (List ℕ)) (asks : List Key) (now : ℕ) → bypass_mark old pass (length asks) ≡ how → IsLegalState old → ((answers : List Found) (new : State) → LooksBy how old pass id asks now answers new → ⊥) → ⊥
looks_stand (Some m) old pass id asks now is ok none = none (bypassed pass id m asks) old (refl, refl)
looks_stand None old pass id asks now is ok none = asks_stand old.limits pass id now asks old.journal ok.legal (room_of_look old pass (length asks) is) (λ answers K all. none answers (record old { journal = K }) (all, refl))

-- A SETTLE

covered_below : (J : List Event) (i : ℕ) (key : Key) (tags : Tags) (p : ℕ) → CoversAfter J i key tags p → p < length J
covered_below J i key tags p covers = from (slice_get_cases J p) covers.1
  where
    from : (slice_get J p ≡ slice_get J p) × (((x : Event) × (p < length J) × (slice_get J p ≡ Some x) × (get_or J p x ≡ x)) ⊎ ((length J ≤ p) × (slice_get J p ≡ None))) → CoveredAt J key tags p → p < length J
    from (same, inl there) covered = there.1
    from (same, inr past) covered = absurd (subst (λ (o : Option Event). IsSomeAnd o (λ e. IsCover e key tags)) past.1 covered)

failed_found : outcome.Failed ≢ outcome.Memory
failed_found e = absurd cc

unstorable_found : (why : Why) → outcome.Unstorable why ≢ outcome.Memory
unstorable_found why e = absurd cc

over_found : (pinned current : ℕ) → outcome.Over pinned current ≢ outcome.Memory
over_found pinned current e = absurd cc

bypassed_found : outcome.Bypassed ≢ outcome.Memory
bypassed_found e = absurd cc

due_found : (cover : Option ℕ) (stored size limit : ℕ) → due_after cover stored size limit ≢ outcome.Memory
due_found (Some p) stored size limit e = absurd cc
due_found None stored size limit e = from (nat_lt limit (stored + size)) e
  where
    from : (b : Bool) → (if b then outcome.NoRoom stored size limit else outcome.Stored) ≡ outcome.Memory → ⊥
    from true e' = absurd cc
    from false e' = absurd cc

due_stands : (limits : Limits) (J : List Event) (s : Started) (r : Report) → ((out : Outcome) → out ≢ outcome.Memory → IsDue limits J s (got_by r out) out → ⊥) → ⊥
due_stands limits J s report.Failed none = none outcome.Failed failed_found refl
due_stands limits J s (report.Got offer) none = by_why (why_of offer.marks offer.verdict offer.tags (is_some s.id)) none
  where
    by_why : (why : Option Why) → ((out : Outcome) → out ≢ outcome.Memory → IsDueBy why limits J s (got_of offer out) out → ⊥) → ⊥
    by_why (Some why) stuck = stuck (outcome.Unstorable why) (unstorable_found why) refl
    by_why None stuck = last_stands (CoversAfter J s.at s.key offer.tags) (length J) (covered_below J s.at s.key offer.tags) (λ cover last.
        stuck (due_after cover (bytes J) (offer_size offer) limits.bytes) (due_found cover (bytes J) (offer_size offer) limits.bytes) (cover, last, inl refl))

settles_stand : (m : Mark) (old : State) (p : Granted) (r : Report) → MayBy m old p → ((c : Settled) (new : State) → c.outcome ≢ outcome.Memory → SettlesBy m old p r c new → ⊥) → ⊥
settles_stand (mark.Ticket t) old p r may none = by_epoch (p.epoch == old.epoch) refl none
  where
    by_epoch : (b : Bool) → (p.epoch == old.epoch) ≡ b → ((c : Settled) (new : State) → c.outcome ≢ outcome.Memory → MatchBool b (Appends old t p r c new) (Leaves old (outcome.Over p.epoch old.epoch) c new) → ⊥) → ⊥
    by_epoch true is stuck =
        let here : p.epoch ≡ old.epoch = grind (arith, nat_tests) in
        let owed : IsOwed old t p = may here in
        due_stands old.limits old.journal owed.start r (λ out found due. stuck
        (record { position = Some (length old.journal); outcome = out })
        (record old { journal = old.journal ++ event.Settle p.who t (got_by r out) out ∷ []; probes = probes_after old.probes r out })
        found
        (record { start = owed.start; unsettled = owed.unsettled; due = due; position = refl; after = refl }))
    by_epoch false is stuck = stuck (record { position = None; outcome = outcome.Over p.epoch old.epoch }) old (over_found p.epoch old.epoch) (record { answer_is = refl; same = refl })
settles_stand (mark.Over u v) old p r may none = none (record { position = None; outcome = outcome.Bypassed }) old bypassed_found (record { answer_is = refl; same = refl })
settles_stand (mark.Full u v w z) old p r may none = none (record { position = None; outcome = outcome.Bypassed }) old bypassed_found (record { answer_is = refl; same = refl })
settles_stand (mark.Wide u v) old p r may none = none (record { position = None; outcome = outcome.Bypassed }) old bypassed_found (record { answer_is = refl; same = refl })
settles_stand mark.Retired old p r may none = none (record { position = None; outcome = outcome.Bypassed }) old bypassed_found (record { answer_is = refl; same = refl })

-- AN INVALIDATION

voids_stand : (how : Turned) (old : State) (who : ℕ) (target : Target) → ((v : voided.Voided) (new : State) → VoidsBy how old who target v new → ⊥) → ⊥
voids_stand turn.No old who target none = count_stands (IsHeldUnder old.journal target) (length old.journal) (λ c counted. none
    (record { epoch = old.epoch; position = length old.journal; count = c; turned = turn.No })
    (record old { journal = old.journal ++ event.Invalidate who target c ∷ [] })
    (record { count = counted; epoch = refl; position = refl; turned_is = refl; after = refl }))
voids_stand (turn.Full n r l) old who target none = count_stands (IsHeldUnder [] target) 0 (λ c counted. none
    (record { epoch = (turned old).epoch; position = 0; count = c; turned = turn.Full n r l })
    (record (turned old) { journal = event.Invalidate who target c ∷ [] })
    (record { count = counted; epoch = refl; position = refl; turned_is = refl; after = refl }))
voids_stand turn.Retired old who target none = none (record { epoch = old.epoch; position = 0; count = 0; turned = turn.Retired }) old (record { answer_is = refl; same = refl })

-- ANY CALL

begun_found : (p : Pinned) → IsWantOfMemory (Begun p) → ⊥
begun_found p e = e

looked_found : (fs : List Found) → IsWantOfMemory (Looked fs) → ⊥
looked_found fs e = e

voided_found : (v : voided.Voided) → IsWantOfMemory (Voided v) → ⊥
voided_found v e = e

tallied_found : (t : tally.Tally) → IsWantOfMemory (Tallied t) → ⊥
tallied_found t e = e

pub not_stuck : (old : State) (call : Call) → IsLegalState old → MayCall old call → IsStuck old call → ⊥
not_stuck old (Begin who) ok may stuck =
    let pass : Pinned = record { who = who; epoch = (begun old).epoch } in
    stuck (Begun pass) (begun old) (begun_found pass) (refl, refl)
not_stuck old (Look pass id asks now) ok may stuck = looks_stand (bypass_mark old pass (length asks)) old pass id asks now refl ok (λ answers new h. stuck (Looked answers) new (looked_found answers) h)
not_stuck old (Settle p r) ok may stuck = settles_stand p.mark old p r may.0 (λ c new found h. stuck (Closed c) new found h)
not_stuck old (Invalidate who target) ok may stuck = voids_stand (turning old) old who target (λ v new h. stuck (Voided v) new (voided_found v) h)
not_stuck old Tally ok may stuck = stuck (Tallied (tally_of old)) old (tallied_found (tally_of old)) (refl, refl)
