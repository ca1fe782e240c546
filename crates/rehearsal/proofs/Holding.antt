-- The permits in hand stay ready from call to call.
use Rattle.std.proofs.Common.{◌≡◌, ◌≢◌, ◌⊎◌, inl, inr, ℕ, ◌+◌, ◌*◌, ◌<◌, ◌≤◌, ◌==◌, Bool, true, false, not, List, [], ◌∷◌, ◌++◌, length, Option, Some, None, refl, ap, sym, ◌∙◌, arith, subst, cond}
use Rattle.std.specs.Prelude.{if◌then◌else◌, nat_lt, min, ◌-◌, ◌^◌}
use Rattle.std.specs.FinMap as map
use Rattle.std.specs.Ordering.{eq_by_cmp, is_eq}
use Rattle.std.specs.declared.cmp.Ordering.TheVariants.{Less, Equal, Greater}
use Rattle.std.specs.declared.cmp.Ordering.{Ordering}
use Rattle.std.proofs.lemmas.Cmp.{tied_itself}
use Rattle.std.proofs.lemmas.Bool.Decides.{eqb_tells}
use Rattle.std.proofs.lemmas.Option.{same_Some}
use Rattle.std.proofs.lemmas.List.Sums.{sum_by-append}
use Rattle.cache_terms.specs.declared.keys.Key.{Key}
use Rattle.cache_terms.specs.declared.events.Event.{Event}
use Rattle.cache_terms.specs.declared.events.Event.TheVariants.{Lookup, Start}
use Rattle.cache_book.specs.declared.answers.Settled.{Settled}
use Rattle.cache_terms.specs.declared.events.Mark.{Mark}
use Rattle.cache_terms.specs.declared.events.Mark.TheVariants as mark
use Rattle.cache_book.specs.declared.found.Found.{Found}
use Rattle.cache_book.specs.declared.found.Found.TheVariants as found
use Rattle.cache_book.specs.declared.permit.Report.{Report}
use Rattle.cache_model.specs.Journal.{starts, reserved, is_start}
use Rattle.cache_model.specs.State.{State, begun, turns, turned}
use Rattle.cache_book.specs.Permits.{Pinned, Granted}
use Rattle.cache_book.specs.Settling.{Settles, SettlesBy, Appends}
use Rattle.cache_terms.specs.declared.keys.Target.{Target}
use Rattle.cache_terms.specs.declared.events.Event.TheVariants.{Invalidate}
use Rattle.cache_book.specs.declared.answers.Turned.{Turned}
use Rattle.cache_book.specs.declared.answers.Turned.TheVariants as turn
use Rattle.cache_book.specs.declared.answers.Voided.{Voided}
use Rattle.cache_book.specs.Voiding.{Voids, VoidsBy, turning}
use Rattle.cache_book.specs.Looking.{Asked, Looks, LooksBy, bypass_mark, granted}
use Rattle.cache_book.specs.Owed.{IsOwedAnswer, KeepsPermits, KeepsOthers, KeepsEarlier}
use Rattle.rehearsal.specs.Names.{name_cmp}
use Rattle.rehearsal.specs.Scene.{Permits, with_permit}
use Rattle.rehearsal.specs.InHand.{IsInHand, IsReady, IsNew, IsTakeable}
use Rattle.rehearsal.proofs.Maps.{name_total, name_same}

-- names

same_name : (a b : ℕ × ℕ) → eq_by_cmp name_cmp a b ≡ true → a ≡ b
same_name a b e = name_same a b (equal (name_cmp a b) e)
  where
    equal : (r : Ordering) → is_eq r ≡ true → r ≡ Equal
    equal Less h = absurd cc
    equal Equal h = refl
    equal Greater h = absurd cc

-- what is in hand after one more is taken is that one, or was there
pub in_insert : (hand : Permits) (k : ℕ × ℕ) (v : Granted) (q : ℕ × ℕ) (p : Granted) → map.get (map.insert hand k v) q ≡ Some p → ((q ≡ k) × (v ≡ p)) ⊎ (map.get hand q ≡ Some p)
in_insert hand k v q p e = from (eq_by_cmp name_cmp q k) refl (sym (map.get-insert name_total hand k v q) ∙ e)
  where
    from : (b : Bool) → eq_by_cmp name_cmp q k ≡ b → cond b (Some v) (map.get hand q) ≡ Some p → ((q ≡ k) × (v ≡ p)) ⊎ (map.get hand q ≡ Some p)
    from true is h = inl (same_name q k is, same_Some v p h)
    from false is h = inr h

-- what is in hand after one is taken out was there, and has another name
pub in_remove : (hand : Permits) (k : ℕ × ℕ) (q : ℕ × ℕ) (p : Granted) → map.get (map.remove hand k) q ≡ Some p → (q ≢ k) × (map.get hand q ≡ Some p)
in_remove hand k q p e = from (eq_by_cmp name_cmp q k) refl (sym (map.get-remove name_total hand k q) ∙ e)
  where
    from : (b : Bool) → eq_by_cmp name_cmp q k ≡ b → cond b None (map.get hand q) ≡ Some p → (q ≢ k) × (map.get hand q ≡ Some p)
    from true is h = absurd cc
    from false is h = (λ same. not_itself (sym (ap (λ x. eq_by_cmp name_cmp x k) same) ∙ is), h)
      where
        not_itself : eq_by_cmp name_cmp k k ≡ false → ⊥
        not_itself f =
            let e : eq_by_cmp name_cmp k k ≡ true = ap is_eq (tied_itself name_total k) in
            absurd cc

-- settle

starts_more : (js more : List Event) → starts (js ++ more) ≡ starts js + starts more
starts_more js more = sum_by-append (λ (x : Event). cond (is_start x) 1 0) js more

starts_settle : (js : List Event) (e : Event) → starts js ≤ starts (js ++ e ∷ [])
starts_settle js e = omega (arith, starts_more js (e ∷ []))

-- what a settle leaves: the same state, or one of the same epoch with no fewer Starts
abbrev Where : State → Granted → State → Type 0
Where old p new = (new ≡ old) ⊎ ((p.epoch ≡ old.epoch) × (new.epoch ≡ old.epoch) × (starts old.journal ≤ starts new.journal))

settle_where : (m : Mark) (old : State) (p : Granted) (r : Report) (a : Settled) (new : State) → SettlesBy m old p r a new → Where old p new
settle_where (mark.Ticket t) old p r a new h = by_epoch (eqb_tells p.epoch old.epoch) h
  where
    by_epoch : ((p.epoch == old.epoch) ≡ true) × (p.epoch ≡ old.epoch) ⊎ ((p.epoch == old.epoch) ≡ false) × (p.epoch ≢ old.epoch) → SettlesBy (mark.Ticket t) old p r a new → Where old p new
    by_epoch (inl e) h' =
        let app : Appends old t p r a new = rw e.0 at h' in
        inr (e.1, ap (λ (s : State). s.epoch) app.after, subst (λ (s : State). starts old.journal ≤ starts s.journal) (sym app.after) (starts_settle old.journal _))
    by_epoch (inr e) h' = inl ((rw e.0 at h').same)
settle_where (mark.Over x y) old p r a new h = inl h.same
settle_where (mark.Full x y z w) old p r a new h = inl h.same
settle_where (mark.Wide x y) old p r a new h = inl h.same
settle_where mark.Retired old p r a new h = inl h.same

-- a permit with no ticket changes nothing
pub settle_past : (m : Mark) (old : State) (p : Granted) (r : Report) (a : Settled) (new : State) → ((t : ℕ) → m ≡ mark.Ticket t → ⊥) → SettlesBy m old p r a new → new ≡ old
settle_past (mark.Ticket t) old p r a new past h = absurd (past t refl)
settle_past (mark.Over x y) old p r a new past h = h.same
settle_past (mark.Full x y z w) old p r a new past h = h.same
settle_past (mark.Wide x y) old p r a new past h = h.same
settle_past mark.Retired old p r a new past h = h.same

-- a permit with no ticket is not taken in hand
pub with_none : (hand : Permits) (p : Granted) (m : Mark) → ((t : ℕ) → m ≡ mark.Ticket t → ⊥) → with_permit hand p m ≡ hand
with_none hand p (mark.Ticket t) past = absurd (past t refl)
with_none hand p (mark.Over x y) past = refl
with_none hand p (mark.Full x y z w) past = refl
with_none hand p (mark.Wide x y) past = refl
with_none hand p mark.Retired past = refl

ticket_same : (t u : ℕ) → mark.Ticket t ≡ mark.Ticket u → t ≡ u
ticket_same t u e = cc

-- a permit of another name may still be settled
held_settled : (old : State) (k : ℕ × ℕ) (p : Granted) (new : State) → p.epoch ≡ k.0 → p.mark ≡ mark.Ticket k.1 → Where old p new
    → KeepsOthers old p new → (name : ℕ × ℕ) (q : Granted) → IsInHand old name q → name ≢ k → IsInHand new name q
held_settled old k p new epoch_is mark_is (inl same) keeps name q h other = subst (λ (s : State). IsInHand s name q) (sym same) h
held_settled old k p new epoch_is mark_is (inr w) keeps name q h other = record {
  epoch_is = h.epoch_is;
  ticket_is = h.ticket_is;
  may = keeps q (λ m e. other (λ i. ((sym h.epoch_is ∙ e ∙ epoch_is) i, (ticket_same name.1 k.1 (sym h.ticket_is ∙ m ∙ mark_is)) i))) h.may;
  begun = omega (arith, h.begun, w.1);
  drawn = λ here. (let before : name.1 < starts old.journal = h.drawn (here ∙ w.1) in let more : starts old.journal ≤ starts new.journal = w.2 in omega arith);
}

-- the rest of the hand stays ready where a permit is taken out and settled
pub settle_ready : (old : State) (hand : Permits) (k : ℕ × ℕ) (p : Granted) (r : Report) (a : Settled) (new : State)
    → map.get hand k ≡ Some p → Settles old p r a new → KeepsOthers old p new → IsReady old hand → IsReady new (map.remove hand k)
settle_ready old hand k p r a new held h keeps ready name q is =
    let there = in_remove hand k name q is in
    let own = ready k p held in
    held_settled old k p new own.epoch_is own.ticket_is (settle_where p.mark old p r a new h) keeps name q (ready name q there.1) there.0

-- the whole hand stays ready where a permit that is not in it is settled
pub spend_ready : (old : State) (hand : Permits) (t : ℕ) (p : Granted) (r : Report) (a : Settled) (new : State)
    → p.mark ≡ mark.Ticket t → map.get hand (p.epoch, t) ≡ None → Settles old p r a new → KeepsOthers old p new → IsReady old hand → IsReady new hand
spend_ready old hand t p r a new mark_is free h keeps ready name q is =
    held_settled old (p.epoch, t) p new refl mark_is (settle_where p.mark old p r a new h) keeps name q (ready name q is)
    (λ same. absurd cc (sym is ∙ ap (map.get hand) same ∙ free))

-- an empty hand is ready, and so is one from which a permit was taken
pub empty_ready : (book : State) (hand : Permits) → hand ≡ map.empty → IsReady book hand
empty_ready book hand none name p is = absurd cc (sym is ∙ ap (λ (h : Permits). map.get h name) none ∙ map.get-empty name_cmp name)

pub remove_ready : (book : State) (hand : Permits) (k : ℕ × ℕ) (new : Permits) → new ≡ map.remove hand k → IsReady book hand → IsReady book new
remove_ready book hand k new is ready name p there = ready name p (in_remove hand k name p (sym (ap (λ (h : Permits). map.get h name) is) ∙ there)).1

-- where a permit is taken in hand, all are ready
pub insert_ready : (book : State) (hand : Permits) (t : ℕ) (p : Granted) → IsInHand book (p.epoch, t) p → IsReady book hand → IsReady book (map.insert hand (p.epoch, t) p)
insert_ready book hand t p own ready name q is = from (in_insert hand (p.epoch, t) p name q is)
  where
    from : ((name ≡ (p.epoch, t)) × (p ≡ q)) ⊎ (map.get hand name ≡ Some q) → IsInHand book name q
    from (inl e) = subst (λ (n : ℕ × ℕ). IsInHand book n q) (sym e.0) (subst (λ (g : Granted). IsInHand book (p.epoch, t) g) e.1 own)
    from (inr there) = ready name q there

-- look

module _ (pass : Pinned) (id : Option (List ℕ)) (now : ℕ) (key : Key) where
  looks_by_one : (m : Option Mark) (old : State) (answers : List Found) (new : State) → LooksBy m old pass id (key ∷ []) now answers new → (a : Found) × (answers ≡ a ∷ [])
  looks_by_one (Some m) old answers new h = (found.Bypass (granted pass id m key), h.0)
  looks_by_one None old [] new h = absurd h.0
  looks_by_one None old (a ∷ []) new h = (a, refl)
  looks_by_one None old (a ∷ b ∷ answers) new h = absurd h.0.2

  -- one ask has one answer
  pub looks_one : (old : State) (answers : List Found) (new : State) → Looks old pass id (key ∷ []) now answers new → (a : Found) × (answers ≡ a ∷ [])
  looks_one old answers new h = looks_by_one (bypass_mark old pass 1) old answers new h

  asked_starts : (js : List Event) (a : Found) (ks : List Event) → Asked pass id now key js a ks → starts js ≤ starts ks
  asked_starts js (found.Hit l q v m b) ks h = subst (λ (l : List Event). starts js ≤ starts l) (sym h.after) (omega (arith, starts_more js (Lookup pass.who key id now (Some q) ∷ [])))
  asked_starts js (found.Miss l p) ks h = subst (λ (l : List Event). starts js ≤ starts l) (sym h.after) (omega (arith, starts_more js (Lookup pass.who key id now None ∷ Start pass.who (starts js) key id now ∷ [])))
  asked_starts js (found.Bypass p) ks h = subst (λ (l : List Event). starts js ≤ starts l) (sym h.after) (omega arith)

  missed_starts : (js : List Event) (l : ℕ) (p : Granted) (ks : List Event) → Asked pass id now key js (found.Miss l p) ks → starts ks ≡ starts js + 1
  missed_starts js l p ks h = ap (λ (l : List Event). starts l) h.after ∙ starts_more js (Lookup pass.who key id now None ∷ Start pass.who (starts js) key id now ∷ [])

mark_none : (s : State) (pass : Pinned) (n : ℕ) → None ≡ bypass_mark s pass n → pass.epoch ≡ s.epoch
mark_none s pass n is = from (s.epoch == 2 ^ 64 - 1) (eqb_tells pass.epoch s.epoch) (nat_lt s.limits.events (length s.journal + reserved s.journal + 3 * n)) is
  where
    from : (a : Bool) → ((pass.epoch == s.epoch) ≡ true) × (pass.epoch ≡ s.epoch) ⊎ ((pass.epoch == s.epoch) ≡ false) × (pass.epoch ≢ s.epoch) → (c : Bool)
        → None ≡ (if a then Some mark.Retired else (if not (pass.epoch == s.epoch) then Some (mark.Over pass.epoch s.epoch) else (if c then Some (mark.Full (length s.journal) (reserved s.journal) (min (3 * n) (2 ^ 64 - 1)) s.limits.events) else None))) → pass.epoch ≡ s.epoch
    from a (inl e) c h = e.1
    from true (inr e) c h = absurd cc
    from false (inr e) c h = absurd (not_over (rw e.0 at h))
      where
        not_over : None ≡ Some (mark.Over pass.epoch s.epoch) → ⊥
        not_over h' = absurd cc

-- a permit that goes past the journal has no ticket
mark_new : (s : State) (pass : Pinned) (n : ℕ) (m : Mark) → Some m ≡ bypass_mark s pass n → (book : State) (hand : Permits) (p : Granted) → IsNew book hand p m
mark_new s pass n m is book hand p = from (s.epoch == 2 ^ 64 - 1) (not (pass.epoch == s.epoch)) (nat_lt s.limits.events (length s.journal + reserved s.journal + 3 * n)) is
  where
    from : (a b c : Bool) → Some m ≡ (if a then Some mark.Retired else (if b then Some (mark.Over pass.epoch s.epoch) else (if c then Some (mark.Full (length s.journal) (reserved s.journal) (min (3 * n) (2 ^ 64 - 1)) s.limits.events) else None))) → IsNew book hand p m
    from true b c h = subst (IsNew book hand p) (same_Some mark.Retired m (sym h)) tt
    from false true c h = subst (IsNew book hand p) (same_Some (mark.Over pass.epoch s.epoch) m (sym h)) tt
    from false false true h = subst (IsNew book hand p) (same_Some (mark.Full (length s.journal) (reserved s.journal) (min (3 * n) (2 ^ 64 - 1)) s.limits.events) m (sym h)) tt
    from false false false h = absurd cc

-- what a look leaves, for the permits in hand
pub record IsKept (hand : Permits) (a : Found) (new : State) : Type 0 where
  pub ready : IsReady new hand
  pub takeable : IsTakeable new hand a

held_later : (old new : State) (name : ℕ × ℕ) (q : Granted) → KeepsPermits old new → new.epoch ≡ old.epoch → starts old.journal ≤ starts new.journal → IsInHand old name q → IsInHand new name q
held_later old new name q keeps same more h = record {
  epoch_is = h.epoch_is;
  ticket_is = h.ticket_is;
  may = keeps q h.may;
  begun = omega (arith, h.begun, same);
  drawn = λ here. (let before : name.1 < starts old.journal = h.drawn (here ∙ same) in omega (arith, before, more));
}

ready_later : (old new : State) (hand : Permits) → KeepsPermits old new → new.epoch ≡ old.epoch → starts old.journal ≤ starts new.journal → IsReady old hand → IsReady new hand
ready_later old new hand keeps same more ready name q is = held_later old new name q keeps same more (ready name q is)

-- no permit in hand has the next ticket
next_free : (old : State) (hand : Permits) (epoch ticket : ℕ) → epoch ≡ old.epoch → ticket ≡ starts old.journal → IsReady old hand → map.get hand (epoch, ticket) ≡ None
next_free old hand epoch ticket here next ready = from (map.get hand (epoch, ticket)) refl
  where
    from : (o : Option Granted) → map.get hand (epoch, ticket) ≡ o → o ≡ None
    from None is = refl
    from (Some q) is =
        let own = ready (epoch, ticket) q is in
        let below : ticket < starts old.journal = own.drawn (own.epoch_is ∙ here) in
        absurd (omega (arith, below, next))

kept_answer : (pass : Pinned) (id : Option (List ℕ)) (now : ℕ) (key : Key) (old : State) (hand : Permits) (a : Found) (new : State) → pass.epoch ≡ old.epoch → Asked pass id now key old.journal a new.journal → new.epoch ≡ old.epoch
    → KeepsPermits old new → IsOwedAnswer new a → IsReady old hand → IsKept hand a new
kept_answer pass id now key old hand (found.Hit l st v m b) new here asked same keeps owed ready =
    record { ready = ready_later old new hand keeps same (asked_starts pass id now key old.journal (found.Hit l st v m b) new.journal asked) ready; takeable = tt }
kept_answer pass id now key old hand (found.Bypass p) new here asked same keeps owed ready = record {
  ready = ready_later old new hand keeps same (asked_starts pass id now key old.journal (found.Bypass p) new.journal asked) ready;
  takeable = subst (IsNew new hand p) (sym (ap (λ (g : Granted). g.mark) asked.permit_is)) tt;
}
kept_answer pass id now key old hand (found.Miss l p) new here asked same keeps owed ready =
    let marked : p.mark ≡ mark.Ticket (starts old.journal) = ap (λ (g : Granted). g.mark) asked.permit_is in
    let begun_is : p.epoch ≡ pass.epoch = ap (λ (g : Granted). g.epoch) asked.permit_is in
    let grown : starts new.journal ≡ starts old.journal + 1 = missed_starts pass id now key old.journal l p new.journal asked in
    record {
      ready = ready_later old new hand keeps same (asked_starts pass id now key old.journal (found.Miss l p) new.journal asked) ready;
      takeable = subst (IsNew new hand p) (sym marked) (
        record {
          epoch_is = refl;
          ticket_is = marked;
          may = owed;
          begun = omega (arith, begun_is, here, same);
          drawn = λ e. omega (arith, grown);
        },
        next_free old hand p.epoch (starts old.journal) (begun_is ∙ here) refl ready,
      );
    }

pub looks_ready : (pass : Pinned) (id : Option (List ℕ)) (now : ℕ) (key : Key) (old : State) (hand : Permits) (a : Found) (new : State) → Looks old pass id (key ∷ []) now (a ∷ []) new
    → KeepsPermits old new → IsOwedAnswer new a → IsReady old hand → IsKept hand a new
looks_ready pass id now key old hand a new = from (bypass_mark old pass 1) refl
  where
    first_or : Found → List Found → Found
    first_or d [] = d
    first_or d (x ∷ xs) = x

    from : (m : Option Mark) → m ≡ bypass_mark old pass 1 → LooksBy m old pass id (key ∷ []) now (a ∷ []) new → KeepsPermits old new → IsOwedAnswer new a → IsReady old hand → IsKept hand a new
    from (Some m) is h keeps owed ready =
        let a_is : found.Bypass (granted pass id m key) ≡ a = sym (ap (first_or a) h.0) in
        record {
          ready = subst (λ (s : State). IsReady s hand) (sym h.1) ready;
          takeable = subst (IsTakeable new hand) a_is (mark_new old pass 1 m is new hand (granted pass id m key));
        }
    from None is h keeps owed ready =
        kept_answer pass id now key old hand a new (mark_none old pass 1 is) (subst (λ (js : List Event). Asked pass id now key old.journal a js) (sym h.0.2) h.0.1) (ap (λ (s : State). s.epoch) h.1) keeps owed ready

-- a new epoch

-- in a later epoch a permit may be settled still
pub turned_ready : (old new : State) (hand : Permits) → KeepsEarlier old new → new.epoch ≡ old.epoch + 1 → IsReady old hand → IsReady new hand
turned_ready old new hand keeps next ready name q is =
    let h = ready name q is in
    let began : q.epoch ≤ old.epoch = h.begun in
    record {
      epoch_is = h.epoch_is;
      ticket_is = h.ticket_is;
      may = keeps q began h.may;
      begun = omega (arith, began, next);
      drawn = λ here. absurd (omega (arith, began, next, here));
    }

-- so may they later in the same epoch
same_ready : (old new : State) (hand : Permits) → KeepsEarlier old new → new.epoch ≡ old.epoch → starts old.journal ≤ starts new.journal → IsReady old hand → IsReady new hand
same_ready old new hand keeps same more ready name q is =
    let h = ready name q is in
    let began : q.epoch ≤ old.epoch = h.begun in
    record {
      epoch_is = h.epoch_is;
      ticket_is = h.ticket_is;
      may = keeps q began h.may;
      begun = omega (arith, began, same);
      drawn = λ here. (let before : name.1 < starts old.journal = h.drawn (here ∙ same) in omega (arith, before, more));
    }

pub begun_ready : (old new : State) (hand : Permits) → new ≡ begun old → KeepsEarlier old new → IsReady old hand → IsReady new hand
begun_ready old new hand is keeps ready = from (turns old) is
  where
    from : (b : Bool) → new ≡ (if b then turned old else old) → IsReady new hand
    from true e = turned_ready old new hand keeps (ap (λ (s : State). s.epoch) e) ready
    from false e = subst (λ (s : State). IsReady s hand) (sym e) ready

-- invalidations leave the hand ready
pub voids_ready : (old : State) (who : ℕ) (target : Target) (a : Voided) (new : State) (hand : Permits) → Voids old who target a new → KeepsEarlier old new → IsReady old hand → IsReady new hand
voids_ready old who target a new hand h keeps ready = from (turning old) h
  where
    from : (t : Turned) → VoidsBy t old who target a new → IsReady new hand
    from turn.No v = same_ready old new hand keeps (ap (λ (s : State). s.epoch) v.after)
        (subst (λ (s : State). starts old.journal ≤ starts s.journal) (sym v.after) (starts_settle old.journal (Invalidate who target a.count))) ready
    from (turn.Full length reserved limit) v = turned_ready old new hand keeps (ap (λ (s : State). s.epoch) v.after) ready
    from turn.Retired v = subst (λ (s : State). IsReady s hand) (sym v.same) ready
