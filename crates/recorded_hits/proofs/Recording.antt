-- Each hit of a legal journal was recorded by an earlier fetch.
use Rattle.std.proofs.Common.{◌≡◌, ◌⊎◌, inl, inr, ℕ, zero, suc, ◌<◌, Bool, true, false, not, ◌&&◌, List, [], ◌∷◌, ◌++◌, length, take, drop, slice_get, Option, Some, None, refl, ap, sym, ◌∙◌, subst, arith}
use Rattle.std.specs.Prelude.{IsSomeAnd, is_some, if◌then◌else◌, nat_le, ◌==◌}
use Rattle.std.specs.Option.{option_map, option_and_then}
use Rattle.std.proofs.lemmas.Option.{same_Some}
use Rattle.cache_terms.specs.declared.keys.Key.{Key}
use Rattle.cache_terms.specs.declared.tags.Tags.{Tags}
use Rattle.cache_terms.specs.declared.events.Got.{Got}
use Rattle.cache_terms.specs.declared.events.Limits.{Limits}
use Rattle.cache_terms.specs.declared.events.Outcome.TheVariants as outcome
use Rattle.cache_terms.specs.declared.events.Event.{Event}
use Rattle.cache_terms.specs.declared.events.Event.TheVariants as event
use Rattle.cache_terms.specs.declared.reasons.Why.{Why}
use Rattle.cache_terms.specs.declared.reasons.Why.TheVariants as why
use Rattle.cache_terms.specs.Offers.{why_of, first_reason, tag_reasons}
use Rattle.cache_model.specs.Journal.{Started, start_of, Kept, kept_by, kept_of, kept_at, IsCover, CoveredAt, IsLastCover, IsFresh, Serves, IsChoice, bytes}
use Rattle.cache_model.specs.Legal.{IsLegal, EachFits, IsDueBy, due_after, Fits}
use Rattle.cache_model.proofs.Tickets.{start_before}
use Rattle.cache_model.proofs.Growth.{start_stands, slice_get_before}
use Rattle.cache_terms.specs.declared.events.Mark.{Mark}
use Rattle.cache_model.specs.State.{State}
use Rattle.cache_book.specs.Permits.{Pinned}
use Rattle.cache_book.specs.declared.found.Found.{Found}
use Rattle.cache_book.specs.declared.found.Found.TheVariants as found
use Rattle.cache_book.specs.Calls.{Call, Answer, Step, Look, Looked}
use Rattle.cache_book.specs.Looking.{LooksBy, bypass_mark, bypassed}
use Rattle.cache_seam.specs.Seen.{Seen, pass_of}
use Rattle.cache_seam.specs.Turns.{Turn, IsTurn, seen_after, pinned_after}
use Rattle.cache_seam.specs.Standing.{HitsStand}
use Rattle.cache_seam.proofs.StandingHits.{look_stands, looked_here}
use Rattle.recorded_hits.specs.Recorded.{IsRecorded, AreRecorded}
use Rattle.recorded_hits.proofs.Fronts.{within_front, front_same, front_and_rest}

-- WHAT A CHOICE IS

-- what serves, in the public scope or in the caller's own
record Chosen (J : List Event) (key : Key) (id : Option (List ℕ)) (now q : ℕ) : Type 0 where
  pub scope : Option (List ℕ)
  pub serves : Serves J key scope now q
  pub whose : (scope ≡ None) ⊎ IsSomeAnd id (λ own. scope ≡ Some own)

chosen_of : (J : List Event) (key : Key) (id : Option (List ℕ)) (now q : ℕ) → IsChoice J key id now (Some q) → Chosen J key id now q
chosen_of J key None now q h = record { scope = None; serves = h; whose = inl refl }
chosen_of J key (Some own) now q (inl h) = record { scope = Some own; serves = h; whose = inr refl }
chosen_of J key (Some own) now q (inr h) = record { scope = None; serves = h.1; whose = inl refl }

-- WHAT IS KEPT

-- a settle that stored what it got, of a ticket that was started
record Settled (J : List Event) (e : Event) (k : Kept) : Type 0 where
  pub who : ℕ
  pub ticket : ℕ
  pub got : Got
  pub start : Started
  pub is : e ≡ event.Settle who ticket (Some got) outcome.Stored
  pub started : start_of J ticket ≡ Some start
  pub kept : kept_by got start ≡ k

settled_by : (J : List Event) (who t : ℕ) (got : Got) (o : Option Started) (k : Kept) → start_of J t ≡ o → option_map (kept_by got) o ≡ Some k → Settled J (event.Settle who t (Some got) outcome.Stored) k
settled_by J who t got None k is h = absurd (cc h)
settled_by J who t got (Some s) k is h = record { who = who; ticket = t; got = got; start = s; is = refl; started = is; kept = same_Some (kept_by got s) k h }

settled_of : (J : List Event) (e : Event) (k : Kept) → kept_of J e ≡ Some k → Settled J e k
settled_of J (event.Settle who t (Some got) outcome.Stored) k h = settled_by J who t got (start_of J t) k refl h
settled_of J (event.Settle who t None out) k h = absurd (cc h)
settled_of J (event.Settle who t (Some got) (outcome.Void p)) k h = absurd (cc h)
settled_of J (event.Settle who t (Some got) (outcome.NoRoom a b c)) k h = absurd (cc h)
settled_of J (event.Settle who t (Some got) (outcome.Unstorable w)) k h = absurd (cc h)
settled_of J (event.Settle who t (Some got) outcome.Failed) k h = absurd (cc h)
settled_of J (event.Settle who t (Some got) (outcome.Over a b)) k h = absurd (cc h)
settled_of J (event.Settle who t (Some got) outcome.Bypassed) k h = absurd (cc h)
settled_of J (event.Settle who t (Some got) outcome.Memory) k h = absurd (cc h)
settled_of J (event.Lookup who key id now hit) k h = absurd (cc h)
settled_of J (event.Start who t key id now) k h = absurd (cc h)
settled_of J (event.Invalidate who target count) k h = absurd (cc h)

-- what is kept at a position is what the event there keeps
record KeptThere (J : List Event) (q : ℕ) (k : Kept) : Type 0 where
  pub what : Event
  pub stands : slice_get J q ≡ Some what
  pub keeps : kept_of J what ≡ Some k

kept_there : (J : List Event) (q : ℕ) (k : Kept) → kept_at J q ≡ Some k → KeptThere J q k
kept_there J q k h = from (slice_get J q) refl h
  where
    from : (o : Option Event) → slice_get J q ≡ o → option_and_then (kept_of J) o ≡ Some k → KeptThere J q k
    from None is h' = absurd (cc h')
    from (Some e) is h' = record { what = e; stands = is; keeps = h' }

-- WHAT A STORED SETTLE WAS DUE BY

-- there was no reason not to keep it, and no cover since its start
record WasDue (J : List Event) (s : Started) (got : Got) : Type 0 where
  pub cacheable : why_of got.marks got.verdict got.tags (is_some s.id) ≡ None
  pub uncovered : IsLastCover J s.at s.key got.tags None

due_by_cover : (J : List Event) (s : Started) (got : Got) (a b c : ℕ) (cover : Option ℕ) → why_of got.marks got.verdict got.tags (is_some s.id) ≡ None → IsLastCover J s.at s.key got.tags cover → outcome.Stored ≡ due_after cover a b c → WasDue J s got
due_by_cover J s got a b c None due none is = record { cacheable = due; uncovered = none }
due_by_cover J s got a b c (Some p) due last is = absurd (cc is)

due_by_why : (limits : Limits) (J : List Event) (s : Started) (got : Got) (o : Option Why) → why_of got.marks got.verdict got.tags (is_some s.id) ≡ o → IsDueBy o limits J s got outcome.Stored → WasDue J s got
due_by_why limits J s got None is h = elim h.2 [
  | inl same ↦ due_by_cover J s got (bytes J) got.size limits.bytes h.0 is h.1 same
  | inr other ↦ absurd (cc other.1)
]
due_by_why limits J s got (Some w) is h = absurd (cc h)

-- PRIVATE PIECES OF NOBODY ARE NOT KEPT

-- a reason that holds is found, or one before it
some_reason : (before : List (Bool × Why)) (w : Why) (after : List (Bool × Why)) → first_reason (before ++ (true, w) ∷ after) ≡ None → ⊥
some_reason [] w after h = absurd (cc h)
some_reason (r ∷ before) w after h = by_test r.0 (some_reason before w after) h
  where
    by_test : (b : Bool) → (first_reason (before ++ (true, w) ∷ after) ≡ None → ⊥) → (if b then Some r.1 else first_reason (before ++ (true, w) ∷ after)) ≡ None → ⊥
    by_test true rest h' = absurd (cc h')
    by_test false rest h' = rest h'

-- the reasons that come before that one
before_anonymous : Got → List (Bool × Why)
before_anonymous got =
    (not (got.marks.status == 200), why.Status got.marks.status)
    ∷ (got.marks.mutation, why.Mutation)
    ∷ (got.marks.uncached, why.Uncached)
    ∷ (got.marks.errors, why.Errors)
    ∷ (got.marks.absent, why.Absent)
    ∷ (got.verdict.no_store, why.NoStore)
    ∷ (nat_le got.verdict.lifetime got.verdict.age, why.Stale got.verdict.lifetime got.verdict.age)
    ∷ []

anonymous_is_kept_not : (got : Got) (named : Bool) → why_of got.marks got.verdict got.tags named ≡ None → (got.verdict.private && not named) ≡ false
unfolding before_anonymous
anonymous_is_kept_not got named h = by_test (got.verdict.private && not named) refl
  where
    by_test : (b : Bool) → (got.verdict.private && not named) ≡ b → (got.verdict.private && not named) ≡ false
    by_test true is = absurd (some_reason (before_anonymous got) why.Anonymous (tag_reasons got.tags) (subst (λ (b : Bool). first_reason (before_anonymous got ++ (b, why.Anonymous) ∷ tag_reasons got.tags) ≡ None) is h))
    by_test false is = is

-- the scope of what is kept says who may see it
seen_by : (private : Bool) (owner id scope : Option (List ℕ)) → (private && not (is_some owner)) ≡ false → (if private then owner else None) ≡ scope → (scope ≡ None) ⊎ IsSomeAnd id (λ own. scope ≡ Some own) → (private ≡ false) ⊎ IsSomeAnd id (λ own. owner ≡ Some own)
seen_by false owner id scope named is whose = inl refl
seen_by true None id scope named is whose = absurd (cc named)
seen_by true (Some x) id scope named is (inl none) = absurd (cc (is ∙ none))
seen_by true (Some x) None scope named is (inr own) = absurd own
seen_by true (Some x) (Some y) scope named is (inr own) = inr (is ∙ own)

-- TOGETHER

value_of : (o : Option (List ℕ)) → is_some o ≡ true → (value : List ℕ) × (o ≡ Some value)
value_of None h = absurd (cc h)
value_of (Some v) h = (v, refl)

start_in_front : (J : List Event) (n t : ℕ) (s : Started) → start_of (take n J) t ≡ Some s → start_of J t ≡ Some s
start_in_front J n t s h = subst (λ (K : List Event). start_of K t ≡ Some s) (front_and_rest n J) (start_before (take n J) (drop n J) 0 t s h)

covered_in_front : (J : List Event) (n p : ℕ) (key : Key) (tags : Tags) → p < n → CoveredAt J key tags p → CoveredAt (take n J) key tags p
covered_in_front J n p key tags below h = subst (λ (o : Option Event). IsSomeAnd o (λ e. IsCover e key tags)) (sym (front_same n p J below)) h

-- no cover stands before, at or behind the settle
no_cover : (J : List Event) (lookup stored at who t : ℕ) (got : Got) (key : Key) → slice_get J stored ≡ Some (event.Settle who t (Some got) outcome.Stored) → IsLastCover (take stored J) at key got.tags None → IsLastCover (take lookup J) stored key got.tags None → (p : ℕ) → at < p → p < lookup → CoveredAt J key got.tags p → ⊥
no_cover J lookup stored at who t got key settled before behind p above below covered =
    by_place (place p stored)
  where
    place : (p q : ℕ) → (p < q) ⊎ ((p ≡ q) ⊎ (q < p))
    place zero zero = inr (inl refl)
    place zero (suc q) = inl (omega arith)
    place (suc p) zero = inr (inr (omega arith))
    place (suc p) (suc q) = elim (place p q) [ inl a ↦ inl (omega (arith, a)) | inr (inl b) ↦ inr (inl (ap suc b)) | inr (inr c) ↦ inr (inr (omega (arith, c))) ]

    by_place : (p < stored) ⊎ ((p ≡ stored) ⊎ (stored < p)) → ⊥
    by_place (inl a) = before p (above, covered_in_front J stored p key got.tags a covered)
    by_place (inr (inl b)) = subst (λ (o : Option Event). IsSomeAnd o (λ e. IsCover e key got.tags)) (ap (slice_get J) b ∙ settled) covered
    by_place (inr (inr c)) = behind p (c, covered_in_front J lookup p key got.tags below covered)

module _ (limits : Limits) (J : List Event) (each : EachFits limits J) (id : Option (List ℕ)) (now : ℕ) (key : Key) (lookup stored : ℕ) where
  -- from what serves at the lookup, and from what the settle was due by
  recorded_by : (scope : Option (List ℕ)) (v : Serves (take lookup J) key scope now stored) (whose : (scope ≡ None) ⊎ IsSomeAnd id (λ own. scope ≡ Some own)) (who t : ℕ) (got : Got) (s : Started)
      → slice_get J stored ≡ Some (event.Settle who t (Some got) outcome.Stored) → stored < lookup → start_of J t ≡ Some s → kept_by got s ≡ v.kept
      → s.at < stored → WasDue (take stored J) s got → is_some got.value ≡ true
      → (value : List ℕ) × IsRecorded J id now key lookup stored value
  recorded_by scope v whose who t got s settled before started kept at due has =
      let value = value_of got.value has in
      let of_key : s.key ≡ key = ap (λ (k : Kept). k.key) kept ∙ v.key_is in
      let scope_is : (if got.verdict.private then s.id else None) ≡ scope = ap (λ (k : Kept). k.scope) kept ∙ v.scope_is in
      let fresh : IsFresh (kept_by got s) now = subst (λ (k : Kept). IsFresh k now) (sym kept) v.fresh in
      let behind : IsLastCover (take lookup J) stored key got.tags None =
      subst (λ (x : Key). IsLastCover (take lookup J) stored x got.tags None) of_key (subst (λ (k : Kept). IsLastCover (take lookup J) stored k.key k.tags None) (sym kept) v.held.uncovered) in
      let early : IsLastCover (take stored J) s.at key got.tags None = subst (λ (x : Key). IsLastCover (take stored J) s.at x got.tags None) of_key due.uncovered in (
        value.0,
        record {
          ticket = t;
          fetch = s;
          who = who;
          got = got;
          began = started;
          settled = settled;
          in_order = (at, before);
          of_key = of_key;
          value_is = value.1;
          cacheable = due.cacheable;
          begun = fresh.begun;
          fresh = fresh.good;
          allowed = seen_by got.verdict.private s.id id scope (anonymous_is_kept_not got (is_some s.id) due.cacheable) scope_is whose;
          standing = no_cover J lookup stored s.at who t got key settled early behind;
        },
      )

  recorded : (scope : Option (List ℕ)) (v : Serves (take lookup J) key scope now stored) (whose : (scope ≡ None) ⊎ IsSomeAnd id (λ own. scope ≡ Some own)) → (value : List ℕ) × IsRecorded J id now key lookup stored value
  recorded scope v whose =
      let there = kept_there (take lookup J) stored v.kept v.held.kept in
      let what = settled_of (take lookup J) there.what v.kept there.keeps in
      let spot = within_front lookup stored J there.what there.stands in
      let settle : Event = event.Settle what.who what.ticket (Some what.got) outcome.Stored in
      let settled : slice_get J stored ≡ Some settle = spot.1 ∙ ap (λ (e : Event). Some e) what.is in
      let started : start_of J what.ticket ≡ Some what.start = start_in_front J lookup what.ticket what.start what.started in
      let fits : Fits limits (take stored J) settle = (each stored settle settled).fits in
      let same : fits.0 ≡ what.start = same_Some fits.0 what.start (sym (start_in_front J stored what.ticket fits.0 fits.1.started) ∙ started) in
      let due : WasDue (take stored J) what.start what.got = subst (λ (s : Started). WasDue (take stored J) s what.got) same (due_by_why limits (take stored J) fits.0 what.got (why_of what.got.marks what.got.verdict what.got.tags (is_some fits.0.id)) refl fits.3) in
      let begin = start_stands (take stored J) 0 what.ticket fits.0 fits.1.started in
      let early : begin.0 < stored = (within_front stored begin.0 J _ begin.2).0 in
      let at : what.start.at < stored = subst (λ (s : Started). s.at < stored) same (omega (arith, early, begin.1)) in
      recorded_by scope v whose what.who what.ticket what.got what.start settled spot.0 started what.kept at due fits.4

pub hit_recorded : (limits : Limits) (J : List Event) (who : ℕ) (key : Key) (id : Option (List ℕ)) (now lookup stored : ℕ) → IsLegal limits J → slice_get J lookup ≡ Some (event.Lookup who key id now (Some stored)) → (value : List ℕ) × IsRecorded J id now key lookup stored value
hit_recorded limits J who key id now lookup stored legal at =
    let chosen = chosen_of (take lookup J) key id now stored (legal.each lookup (event.Lookup who key id now (Some stored)) at).fits in
    recorded limits J legal.each id now key lookup stored chosen.scope chosen.serves chosen.whose

-- IN LONGER JOURNALS

before_same : (J more : List Event) (p : ℕ) → p < length J → slice_get (J ++ more) p ≡ slice_get J p
before_same [] more p below = absurd (omega (arith, below))
before_same (e ∷ J) more zero below = refl
before_same (e ∷ J) more (suc p) below = before_same J more p (omega (arith, below))

pub recorded_stays : (J more : List Event) (id : Option (List ℕ)) (now : ℕ) (key : Key) (lookup stored : ℕ) (value : List ℕ) → lookup < length J → IsRecorded J id now key lookup stored value → IsRecorded (J ++ more) id now key lookup stored value
recorded_stays J more id now key lookup stored value within h = record {
  ticket = h.ticket;
  fetch = h.fetch;
  who = h.who;
  got = h.got;
  began = start_before J more 0 h.ticket h.fetch h.began;
  settled = slice_get_before J more (event.Settle h.who h.ticket (Some h.got) outcome.Stored) stored h.settled;
  in_order = h.in_order;
  of_key = h.of_key;
  value_is = h.value_is;
  cacheable = h.cacheable;
  begun = h.begun;
  fresh = h.fresh;
  allowed = h.allowed;
  standing = λ p above below covered. h.standing p above below (subst (λ (o : Option Event). IsSomeAnd o (λ e. IsCover e key h.got.tags)) (before_same J more p (omega (arith, below, within))) covered);
}

-- IN A LOOK

-- what is recorded is what is kept there
record_keeps : (J : List Event) (id : Option (List ℕ)) (now : ℕ) (key : Key) (lookup stored : ℕ) (value : List ℕ) (h : IsRecorded J id now key lookup stored value) → kept_at J stored ≡ Some (kept_by h.got h.fetch)
record_keeps J id now key lookup stored value h = ap (option_and_then (kept_of J)) h.settled ∙ ap (option_map (kept_by h.got)) h.began

same_value : (J : List Event) (id : Option (List ℕ)) (now : ℕ) (key : Key) (lookup stored : ℕ) (value other : List ℕ) (kept : Kept) → IsRecorded J id now key lookup stored other → kept_at J stored ≡ Some kept → kept.value ≡ Some value → IsRecorded J id now key lookup stored value
same_value J id now key lookup stored value other kept h kept_is value_is =
    let one : kept_by h.got h.fetch ≡ kept = same_Some (kept_by h.got h.fetch) kept (sym (record_keeps J id now key lookup stored other h) ∙ kept_is) in
    let values : Some other ≡ Some value = sym h.value_is ∙ (ap (λ (k : Kept). k.value) one ∙ value_is) in
    subst (IsRecorded J id now key lookup stored) (same_Some other value values) h

module _ (limits : Limits) (J : List Event) (legal : IsLegal limits J) (pass : Pinned) (id : Option (List ℕ)) (now : ℕ) where
  stand_recorded : (keys : List Key) (answers : List Found) → HitsStand J pass id now keys answers → AreRecorded J id now keys answers
  stand_recorded [] [] h = tt
  stand_recorded (key ∷ keys) (found.Hit lookup stored value left_ms private ∷ answers) h =
      let one = hit_recorded limits J pass.who key id now lookup stored legal h.0.at in
      (same_value J id now key lookup stored value one.0 h.0.kept one.1 h.0.kept_is h.0.value_is, stand_recorded keys answers h.1)
  stand_recorded (key ∷ keys) (found.Miss lookup permit ∷ answers) h = stand_recorded keys answers h
  stand_recorded (key ∷ keys) (found.Bypass permit ∷ answers) h = stand_recorded keys answers h
  stand_recorded [] (answer ∷ answers) h = absurd h
  stand_recorded (key ∷ keys) [] h = absurd h

bypassed_recorded : (J : List Event) (pass : Pinned) (id : Option (List ℕ)) (now : ℕ) (m : Mark) (keys : List Key) → AreRecorded J id now keys (bypassed pass id m keys)
bypassed_recorded J pass id now m [] = tt
bypassed_recorded J pass id now m (key ∷ keys) = bypassed_recorded J pass id now m keys

looks_recorded : (how : Option Mark) (c : Seen) (t : Turn) (id : Option (List ℕ)) (keys : List Key) (now : ℕ) (answers : List Found) → bypass_mark t.found (pass_of c) (length keys) ≡ how → IsTurn c t → (seen_after c t).pinned ≡ c.pinned
    → HitsStand (seen_after c t).journal (pass_of c) id now keys answers → LooksBy how t.found (pass_of c) id keys now answers t.left → AreRecorded t.left.journal id now keys answers
looks_recorded (Some m) c t id keys now answers is turn pin stand h = subst (AreRecorded t.left.journal id now keys) (sym h.0) (bypassed_recorded t.left.journal (pass_of c) id now m keys)
looks_recorded None c t id keys now answers is turn pin stand h =
    let epoch : t.left.epoch ≡ t.found.epoch = ap (λ (s : State). s.epoch) h.1 in
    let here : t.left.epoch ≡ (seen_after c t).pinned = epoch ∙ sym (looked_here t.found (pass_of c) (length keys) is) ∙ sym pin in
    let seen : (seen_after c t).journal ≡ t.left.journal = turn.after.current (sym here) in
    stand_recorded t.left.limits t.left.journal turn.after.lawful.legal.legal (pass_of c) id now keys answers (subst (λ (J : List Event). HitsStand J (pass_of c) id now keys answers) seen stand)

pub look_recorded : (c : Seen) (t : Turn) (id : Option (List ℕ)) (keys : List Key) (now : ℕ) (answers : List Found) → IsTurn c t → t.call ≡ Look (pass_of c) id keys now → t.answer ≡ Looked answers → AreRecorded t.left.journal id now keys answers
look_recorded c t id keys now answers turn call answer =
    let step = subst (λ (a : Answer). Step t.found (Look (pass_of c) id keys now) a t.left) answer (subst (λ (x : Call). Step t.found x t.answer t.left) call turn.step) in
    let pin : (seen_after c t).pinned ≡ c.pinned = ap (λ (x : Call). pinned_after x c.pinned t.left.epoch) call in
    looks_recorded (bypass_mark t.found (pass_of c) (length keys)) c t id keys now answers refl turn pin (look_stands c t id keys now answers turn call answer) step
