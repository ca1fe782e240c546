-- A turn keeps what a user sees coherent.
use Rattle.std.proofs.Common.{◌≡◌, ◌≢◌, ◌⊎◌, inl, inr, ℕ, ◌<◌, ◌≤◌, ◌==◌, Bool, true, false, List, [], ◌∷◌, length, Option, Some, None, All, refl, ap, sym, subst, ◌∙◌, arith}
use Rattle.std.specs.Prelude.{MatchBool, if◌then◌else◌, ◌+◌}
use Rattle.std.proofs.lemmas.Bool.Decides.{nat_tests}
use Rattle.std.proofs.lemmas.Option.{same_Some}
use Rattle.std.proofs.lemmas.List.Elements.{All-append, All-head, All-tail}
use Rattle.cache_terms.specs.declared.keys.Key.{Key}
use Rattle.cache_terms.specs.declared.events.Event.{Event}
use Rattle.cache_terms.specs.declared.events.Event.TheVariants as event
use Rattle.cache_terms.specs.declared.events.Mark.{Mark}
use Rattle.cache_terms.specs.declared.events.Mark.TheVariants as mark
use Rattle.cache_terms.specs.declared.events.Outcome.TheVariants as outcome
use Rattle.cache_book.specs.declared.answers.Settled.{Settled}
use Rattle.cache_book.specs.declared.found.Found.{Found}
use Rattle.cache_book.specs.declared.permit.Report.{Report}
use Rattle.cache_model.specs.Journal.{Started, start_from}
use Rattle.cache_model.specs.State.{State}
use Rattle.cache_model.specs.Story.{who_of, Adds, Without}
use Rattle.cache_book.specs.Permits.{Pinned, Granted}
use Rattle.cache_book.specs.Looking.{LooksBy, bypass_mark}
use Rattle.cache_book.specs.Settling.{SettlesBy, Appends, Leaves, MayBy, IsOwed}
use Rattle.cache_book.specs.Calls.{Call, Answer, Step, MayCall, Begin, Look, Settle, Invalidate, Tally, Begun, Looked, Closed, Voided, Tallied, OutOfMemory}
use Rattle.cache_seam.specs.Objects.{KeepsObjects, CallOffersObject}
use Rattle.cache_seam.specs.Seen.{Seen, IsCoherent}
use Rattle.cache_seam.specs.Turns.{Turn, IsTurn, IsOwnCall, seen_after, pinned_after}
use Rattle.cache_seam.proofs.StandingHits.{looked_here}
use Rattle.cache_seam.proofs.ChainLaws.{pick_same}
use Rattle.cache_seam.proofs.LoneCalls.{lawful_after}

-- THE STATE FOUND

-- the pin has been reached there, and a later epoch has no event of the user
record IsPast (k p : ℕ) (s : State) : Type 0 where
  pub reached : p ≤ s.epoch
  pub over : p < s.epoch → All (λ e. who_of e ≢ k) s.journal

past_found : (c : Seen) (found : State) → IsCoherent c → Without c.left found c.number → IsPast c.number c.pinned found
past_found c found before w = by_added w.added w.adds w.none
  where
    by_added : (ds : List Event) → Adds c.left found ds → All (λ e. who_of e ≢ c.number) ds → IsPast c.number c.pinned found
    by_added ds (inl past) none =
        let r : c.pinned ≤ c.left.epoch = before.reached in
        let later : c.left.epoch < found.epoch = past.0 in
        record { reached = omega arith; over = λ h. subst (λ (J : List Event). All (λ e. who_of e ≢ c.number) J) (sym past.1) none }
    by_added ds (inr on) none =
        let r : c.pinned ≤ c.left.epoch = before.reached in
        let same : c.left.epoch ≡ found.epoch = on.0 in
        record {
          reached = omega arith;
          over = λ h. subst (λ (J : List Event). All (λ e. who_of e ≢ c.number) J) (sym on.1) (All-append (λ e. who_of e ≢ c.number) c.left.journal ds (before.over (omega (arith, h, same))) none);
        }

-- A STEP THAT PINS TO NOTHING

-- nothing was appended, or the pin is to the epoch in which it was
Stays : ℕ → State → State → Type 0
Stays p found left = (left ≡ found) ⊎ ((p ≡ found.epoch) × (left.epoch ≡ found.epoch))

same_epoch : (a b : ℕ) → (a == b) ≡ true → a ≡ b
same_epoch a b test = grind (arith, nat_tests)

looks_stay : (how : Option Mark) (found : State) (pass : Pinned) (id : Option (List ℕ)) (asks : List Key) (now : ℕ) (answers : List Found) (left : State) → bypass_mark found pass (length asks) ≡ how → LooksBy how found pass id asks now answers left → Stays pass.epoch found left
unfolding Stays
looks_stay (Some m) found pass id asks now answers left is h = inl h.1
looks_stay None found pass id asks now answers left is h = inr (looked_here found pass (length asks) is, ap (λ (s : State). s.epoch) h.1)

-- a journal without events of k has no Start of k
no_start_of : (k : ℕ) (J : List Event) (at t : ℕ) (s : Started) → All (λ e. who_of e ≢ k) J → start_from at J t ≡ Some s → s.who ≢ k
no_start_of k [] at t s none h = absurd (cc h)
no_start_of k (event.Start who ticket key id now ∷ J) at t s none h = by_test (no_start_of k J (at + 1) t s (All-tail (λ e. who_of e ≢ k) (event.Start who ticket key id now) J none)) (ticket == t) refl
  where
    here : who ≢ k
    here = All-head (λ e. who_of e ≢ k) (event.Start who ticket key id now) J none

    by_test : (start_from (at + 1) J t ≡ Some s → s.who ≢ k) → (b : Bool) → (ticket == t) ≡ b → s.who ≢ k
    by_test rest true test = λ is. here (ap (λ (x : Started). x.who) (same_Some (record { who = who; key = key; id = id; since = now; at = at }) s (sym (ap (λ (b : Bool). if b then Some (record { who = who; key = key; id = id; since = now; at = at }) else start_from (at + 1) J t) test) ∙ h)) ∙ is)
    by_test rest false test = rest (sym (ap (λ (b : Bool). if b then Some (record { who = who; key = key; id = id; since = now; at = at }) else start_from (at + 1) J t) test) ∙ h)
no_start_of k (event.Lookup who key id now hit ∷ J) at t s none h = no_start_of k J (at + 1) t s (All-tail (λ e. who_of e ≢ k) (event.Lookup who key id now hit) J none) h
no_start_of k (event.Settle who ticket got out ∷ J) at t s none h = no_start_of k J (at + 1) t s (All-tail (λ e. who_of e ≢ k) (event.Settle who ticket got out) J none) h
no_start_of k (event.Invalidate who target count ∷ J) at t s none h = no_start_of k J (at + 1) t s (All-tail (λ e. who_of e ≢ k) (event.Invalidate who target count) J none) h

-- what is owed to the user was started in the epoch of its pin
owed_here : (k p t : ℕ) (found : State) (q : Granted) → IsPast k p found → q.who ≡ k → IsOwed found t q → p ≡ found.epoch
owed_here k p t found q past own owed = by_test (p == found.epoch) refl
  where
    by_test : (b : Bool) → (p == found.epoch) ≡ b → p ≡ found.epoch
    by_test true test = same_epoch p found.epoch test
    by_test false test =
        let differ : p ≢ found.epoch = grind (arith, nat_tests) in
        let r : p ≤ found.epoch = past.reached in
        absurd (no_start_of k found.journal 0 t owed.start (past.over (omega (arith, differ, r))) owed.unsettled.started (owed.who ∙ own))

settles_stay : (m : Mark) (k p : ℕ) (found : State) (q : Granted) (r : Report) (s : Settled) (left : State) → IsPast k p found → q.who ≡ k → MayBy m found q → SettlesBy m found q r s left → Stays p found left
unfolding Stays
settles_stay (mark.Ticket t) k p found q r s left past own may h = by_epoch (q.epoch == found.epoch) refl h
  where
    by_epoch : (b : Bool) → (q.epoch == found.epoch) ≡ b → MatchBool b (Appends found t q r s left) (Leaves found (outcome.Over q.epoch found.epoch) s left) → (left ≡ found) ⊎ ((p ≡ found.epoch) × (left.epoch ≡ found.epoch))
    by_epoch true test a = inr (owed_here k p t found q past own (may (same_epoch q.epoch found.epoch test)), ap (λ (x : State). x.epoch) a.after)
    by_epoch false test l = inl l.same
settles_stay (mark.Over a b) k p found q r s left past own may h = inl h.same
settles_stay (mark.Full a b d e) k p found q r s left past own may h = inl h.same
settles_stay (mark.Wide a b) k p found q r s left past own may h = inl h.same
settles_stay mark.Retired k p found q r s left past own may h = inl h.same

-- THE STATE LEFT

past_left : (k p : ℕ) (found left : State) → IsPast k p found → Stays p found left → IsPast k p left
unfolding Stays
past_left k p found left past (inl same) = subst (IsPast k p) (sym same) past
past_left k p found left past (inr h) =
    let a : p ≡ found.epoch = h.0 in
    let b : left.epoch ≡ found.epoch = h.1 in
    record { reached = omega arith; over = λ later. absurd (omega (arith, later)) }

past_here : (k : ℕ) (left : State) → IsPast k left.epoch left
past_here k left = record { reached = omega arith; over = λ later. absurd (omega arith) }

past_after : (c : Seen) (found : State) (call : Call) (answer : Answer) (left : State) → IsPast c.number c.pinned found → IsOwnCall c call → MayCall found call → Step found call answer left → IsPast c.number (pinned_after call c.pinned left.epoch) left
past_after c found (Begin who) answer left past own may h = past_here c.number left
past_after c found (Invalidate who target) answer left past own may h = past_here c.number left
past_after c found (Look pass id asks now) (Looked fs) left past own may h = past_left c.number c.pinned found left past (subst (λ (n : ℕ). Stays n found left) (ap (λ (q : Pinned). q.epoch) own.0) (looks_stay (bypass_mark found pass (length asks)) found pass id asks now fs left refl h))
past_after c found (Look pass id asks now) OutOfMemory left past own may h = subst (IsPast c.number c.pinned) (sym h) past
past_after c found (Settle q r) (Closed s) left past own may h = past_left c.number c.pinned found left past (settles_stay q.mark c.number c.pinned found q r s left past own may.0 h)
past_after c found Tally (Tallied t) left past own may h = subst (IsPast c.number c.pinned) (sym h.1) past
past_after c found (Look pass id asks now) (Begun q) left past own may h = absurd h
past_after c found (Look pass id asks now) (Closed s) left past own may h = absurd h
past_after c found (Look pass id asks now) (Voided v) left past own may h = absurd h
past_after c found (Look pass id asks now) (Tallied t) left past own may h = absurd h
past_after c found (Settle q r) (Begun b) left past own may h = absurd h
past_after c found (Settle q r) (Looked fs) left past own may h = absurd h
past_after c found (Settle q r) (Voided v) left past own may h = absurd h
past_after c found (Settle q r) (Tallied t) left past own may h = absurd h
past_after c found (Settle q r) OutOfMemory left past own may h = absurd h
past_after c found Tally (Begun b) left past own may h = absurd h
past_after c found Tally (Looked fs) left past own may h = absurd h
past_after c found Tally (Closed s) left past own may h = absurd h
past_after c found Tally (Voided v) left past own may h = absurd h
past_after c found Tally OutOfMemory left past own may h = absurd h

-- A TURN

-- what a call needs to be a turn: the rest follows
pub record CanTurn (c : Seen) (t : Turn) : Type 0 where
  pub before : IsCoherent c
  pub own : IsOwnCall c t.call
  pub goes_on : Without c.left t.found c.number
  pub alone : c.lone ≡ true → t.found ≡ c.left
  pub found_lawful : KeepsObjects t.found
  pub may : MayCall t.found t.call
  pub offers : CallOffersObject t.call
  pub step : Step t.found t.call t.answer t.left

pub coherent_turn : (c : Seen) (t : Turn) → CanTurn c t → IsCoherent (seen_after c t)
coherent_turn c t h =
    let p : ℕ = pinned_after t.call c.pinned t.left.epoch in
    let past = past_after c t.found t.call t.answer t.left (past_found c t.found h.before h.goes_on) h.own h.may h.step in
    record {
      reached = past.reached;
      current = λ same. pick_same t.left.epoch p t.left.journal c.journal (sym same);
      over = past.over;
      lawful = lawful_after t.found t.call t.answer t.left h.found_lawful h.may h.offers h.step;
    }

pub is_turn : (c : Seen) (t : Turn) → CanTurn c t → IsTurn c t
is_turn c t h = record { before = h.before; own = h.own; goes_on = h.goes_on; alone = h.alone; found_lawful = h.found_lawful; may = h.may; offers = h.offers; step = h.step; after = coherent_turn c t h }
