-- What follows from a chain of turns.
use Rattle.std.proofs.Common.{◌≡◌, ◌≢◌, ℕ, ◌<◌, ◌≤◌, ◌==◌, Bool, true, false, List, [], ◌∷◌, ◌++◌, length, drop, Option, Some, None, All, refl, ap, sym, subst, ◌∙◌, arith, append_assoc, inl, inr, ◌⊎◌, eq-eqb}
use Rattle.std.specs.Prelude.{if◌then◌else◌}
use Rattle.std.specs.Option.{option_map}
use Rattle.std.proofs.Math.Seq.{drop-append_seam}
use Rattle.std.proofs.lemmas.Bool.Decides.{nat_tests}
use Rattle.std.proofs.lemmas.List.{append-nil}
use Rattle.std.proofs.lemmas.List.Elements.{All-head, All-tail, All-drop, filter-append}
use Rattle.cache_terms.specs.declared.events.Event.{Event}
use Rattle.cache_model.specs.State.{State}
use Rattle.cache_model.specs.Story.{who_of, Adds}
use Rattle.cache_book.specs.Calls.{Call, Step, MayCall, Run, Begin, Look, Settle, Invalidate, Tally}
use Rattle.cache_seam.specs.Seen.{Seen, Visit, IsCoherent}
use Rattle.cache_seam.specs.Turns.{Turn, TakesTurns, AreTurns, IsTurn, KeepObjects, visit_of, seen_after, seen_after_all, pinned_after}
use Rattle.cache_seam.specs.Chains.{own_events, added_in, added_by, seen_in, calls_of, answers_of, visits_of, AreFronts}
use Rattle.cache_seam.proofs.Hands.{turn_by, adds_epoch, epoch_after}

-- WHAT STAYS

same_user : (c : Seen) (ts : List Turn) → ((seen_after_all c ts).number ≡ c.number) × ((seen_after_all c ts).home ≡ c.home) × ((seen_after_all c ts).lone ≡ c.lone)
same_user c [] = (refl, refl, refl)
same_user c (t ∷ ts) = same_user (seen_after c t) ts

-- no call changes the number, the home, or whether it is alone
pub takes_same : (c d : Seen) (ts : List Turn) → TakesTurns c ts d → (d.number ≡ c.number) × (d.home ≡ c.home) × (d.lone ≡ c.lone)
takes_same c d ts h =
    let same = same_user c ts in
    (ap (λ (s : Seen). s.number) h.after ∙ same.0, ap (λ (s : Seen). s.home) h.after ∙ same.1, ap (λ (s : Seen). s.lone) h.after ∙ same.2)

-- THE TRACE

trace_nil : (o : Option (List Visit)) → o ≡ option_map (λ vs. vs ++ []) o
trace_nil None = refl
trace_nil (Some vs) = ap (λ (l : List Visit). Some l) (sym (append-nil vs))

trace_cons : (o : Option (List Visit)) (v : Visit) (ws : List Visit) → option_map (λ vs. vs ++ ws) (option_map (λ vs. vs ++ v ∷ []) o) ≡ option_map (λ vs. vs ++ v ∷ ws) o
trace_cons None v ws = refl
trace_cons (Some vs) v ws = ap (λ (l : List Visit). Some l) (append_assoc vs (v ∷ []) ws)

trace_after : (c : Seen) (ts : List Turn) → (seen_after_all c ts).trace ≡ option_map (λ vs. vs ++ visits_of ts) c.trace
trace_after c [] = trace_nil c.trace
trace_after c (t ∷ ts) = trace_after (seen_after c t) ts ∙ trace_cons c.trace (visit_of t) (visits_of ts)

-- a trace that is told gains just the turns
pub takes_told : (c d : Seen) (ts : List Turn) → TakesTurns c ts d → d.trace ≡ option_map (λ vs. vs ++ visits_of ts) c.trace
takes_told c d ts h = ap (λ (s : Seen). s.trace) h.after ∙ trace_after c ts

-- ALONE

lone_run : (c : Seen) (ts : List Turn) → c.lone ≡ true → AreTurns c ts → Run c.left (calls_of ts) (answers_of ts) (seen_after_all c ts).left
lone_run c [] lone h = refl
lone_run c (t ∷ ts) lone h =
    let same = h.0.alone lone in
    (t.left, subst (λ (s : State). MayCall s t.call) same h.0.may, subst (λ (s : State). Step s t.call t.answer t.left) same h.0.step, lone_run (seen_after c t) ts lone h.1)

-- where nobody else steps on the book, the turns are a run from the state left before
pub takes_run : (c d : Seen) (ts : List Turn) → c.lone ≡ true → TakesTurns c ts d → Run c.left (calls_of ts) (answers_of ts) d.left
takes_run c d ts lone h = subst (λ (s : Seen). Run c.left (calls_of ts) (answers_of ts) s.left) (sym h.after) (lone_run c ts lone h.are_turns)

-- OWN EVENTS

pub own_all : (k : ℕ) (J : List Event) → All (λ e. who_of e ≡ k) J → own_events k J ≡ J
own_all k [] all = refl
own_all k (e ∷ J) all =
    let test : (who_of e == k) ≡ true = eq-eqb (who_of e) k (All-head (λ e. who_of e ≡ k) e J all) in
    ap (λ (b : Bool). if b then e ∷ own_events k J else own_events k J) test ∙ ap (λ (l : List Event). e ∷ l) (own_all k J (All-tail (λ e. who_of e ≡ k) e J all))

test_false : (a b : ℕ) → a ≢ b → (a == b) ≡ false
test_false a b differ = grind (arith, nat_tests)

pub own_none : (k : ℕ) (J : List Event) → All (λ e. who_of e ≢ k) J → own_events k J ≡ []
own_none k [] all = refl
own_none k (e ∷ J) all =
    let test : (who_of e == k) ≡ false = test_false (who_of e) k (All-head (λ e. who_of e ≢ k) e J all) in
    ap (λ (b : Bool). if b then e ∷ own_events k J else own_events k J) test ∙ own_none k J (All-tail (λ e. who_of e ≢ k) e J all)

-- what is of the user and of nobody is nothing
both_none : (k : ℕ) (J : List Event) → All (λ e. who_of e ≡ k) J → All (λ e. who_of e ≢ k) J → J ≡ []
both_none k [] all none = refl
both_none k (e ∷ J) all none = absurd (All-head (λ e. who_of e ≢ k) e J none (All-head (λ e. who_of e ≡ k) e J all))

pub own_append : (k : ℕ) (J K : List Event) → own_events k (J ++ K) ≡ own_events k J ++ own_events k K
own_append k J K = filter-append (λ e. who_of e == k) J K

-- NUMBERS

same_or_not : (a b : ℕ) → (a ≡ b) ⊎ (a ≢ b)
same_or_not a b = by_test (a == b) refl
  where
    by_test : (t : Bool) → (a == b) ≡ t → (a ≡ b) ⊎ (a ≢ b)
    by_test true test = inl (grind (arith, nat_tests))
    by_test false test = inr (grind (arith, nat_tests))

pub pick_same : (a b : ℕ) (x y : List Event) → a ≡ b → (if a == b then x else y) ≡ x
pick_same a b x y same = ap (λ (t : Bool). if t then x else y) (eq-eqb a b same)

pub pick_other : (a b : ℕ) (x y : List Event) → a ≢ b → (if a == b then x else y) ≡ y
pick_other a b x y differ = ap (λ (t : Bool). if t then x else y) (test_false a b differ)

-- what is pinned to the epoch left is pinned by the call, and else the pin stays
kept_pin : (call : Call) (pinned left : ℕ) → left ≢ pinned_after call pinned left → pinned_after call pinned left ≡ pinned
kept_pin (Begin who) pinned left differ = absurd (differ refl)
kept_pin (Invalidate who target) pinned left differ = absurd (differ refl)
kept_pin (Look pass id asks now) pinned left differ = refl
kept_pin (Settle permit r) pinned left differ = refl
kept_pin Tally pinned left differ = refl

later_pin : (call : Call) (pinned left : ℕ) → pinned ≤ left → pinned ≤ pinned_after call pinned left
later_pin (Begin who) pinned left h = h
later_pin (Invalidate who target) pinned left h = h
later_pin (Look pass id asks now) pinned left h = omega arith
later_pin (Settle permit r) pinned left h = omega arith
later_pin Tally pinned left h = omega arith

-- ONE TURN

-- the user's events in the state found are those that it has seen
found_own : (c : Seen) (t : Turn) (p : ℕ) → IsTurn c t → t.found.epoch ≡ p → own_events c.number t.found.journal ≡ own_events c.number (seen_in p c)
found_own c t p h here = by_added h.goes_on.added h.goes_on.adds h.goes_on.none
  where
    by_added : (ds : List Event) → Adds c.left t.found ds → All (λ e. who_of e ≢ c.number) ds → own_events c.number t.found.journal ≡ own_events c.number (seen_in p c)
    by_added ds (inl past) none =
        let reached : c.pinned ≤ c.left.epoch = h.before.reached in
        let below : c.left.epoch < t.found.epoch = past.0 in
        let other : c.pinned ≢ p = omega arith in
        ap (own_events c.number) past.1 ∙ own_none c.number ds none ∙ sym (ap (own_events c.number) (pick_other c.pinned p c.journal [] other))
    by_added ds (inr on) none =
        let found : own_events c.number t.found.journal ≡ own_events c.number c.left.journal =
        ap (own_events c.number) on.1 ∙ own_append c.number c.left.journal ds ∙ ap (λ (l : List Event). own_events c.number c.left.journal ++ l) (own_none c.number ds none) ∙ append-nil (own_events c.number c.left.journal) in
        found ∙ by_pin (same_or_not c.pinned p)
      where
        by_pin : (c.pinned ≡ p) ⊎ (c.pinned ≢ p) → own_events c.number c.left.journal ≡ own_events c.number (seen_in p c)
        by_pin (inl same) = ap (own_events c.number) (sym (h.before.current (omega (arith, same, here, on.0))) ∙ sym (pick_same c.pinned p c.journal [] same))
        by_pin (inr other) =
            let reached : c.pinned ≤ c.left.epoch = h.before.reached in
            let same : c.left.epoch ≡ t.found.epoch = on.0 in
            let below : c.pinned < c.left.epoch = omega arith in
            own_none c.number c.left.journal (h.before.over below) ∙ sym (ap (own_events c.number) (pick_other c.pinned p c.journal [] other))

-- so with what the turn adds they are those in the state left
left_own : (c : Seen) (t : Turn) (p : ℕ) → IsTurn c t → t.left.epoch ≡ p → own_events c.number t.left.journal ≡ own_events c.number (seen_in p c) ++ added_in p (visit_of t)
left_own c t p h here = by_added (turn_by c t h).added (turn_by c t h).adds (turn_by c t h).all
  where
    by_added : (ds : List Event) → Adds t.found t.left ds → All (λ e. who_of e ≡ c.number) ds → own_events c.number t.left.journal ≡ own_events c.number (seen_in p c) ++ added_in p (visit_of t)
    by_added ds (inl past) all =
        let reached : c.pinned ≤ c.left.epoch = h.before.reached in
        let on : c.left.epoch ≤ t.found.epoch = adds_epoch c.left t.found h.goes_on.added h.goes_on.adds in
        let below : t.found.epoch < t.left.epoch = past.0 in
        let other : c.pinned ≢ p = omega arith in
        let turned : t.found.epoch ≢ p = omega arith in
        let added : added_in p (visit_of t) ≡ t.left.journal =
        pick_same t.left.epoch p (if t.found.epoch == p then drop (length t.found.journal) t.left.journal else t.left.journal) [] here ∙ pick_other t.found.epoch p (drop (length t.found.journal) t.left.journal) t.left.journal turned in
        let none : own_events c.number (seen_in p c) ≡ [] = ap (own_events c.number) (pick_other c.pinned p c.journal [] other) in
        ap (own_events c.number) past.1 ∙ own_all c.number ds all ∙ sym past.1 ∙ sym added ∙ sym (ap (λ (l : List Event). l ++ added_in p (visit_of t)) none)
    by_added ds (inr on) all =
        let same : t.found.epoch ≡ p = on.0 ∙ here in
        let dropped : drop (length t.found.journal) t.left.journal ≡ ds = ap (drop (length t.found.journal)) on.1 ∙ drop-append_seam t.found.journal ds in
        let added : added_in p (visit_of t) ≡ ds =
        pick_same t.left.epoch p (if t.found.epoch == p then drop (length t.found.journal) t.left.journal else t.left.journal) [] here ∙ pick_same t.found.epoch p (drop (length t.found.journal) t.left.journal) t.left.journal same ∙ dropped in
        ap (own_events c.number) on.1 ∙ own_append c.number t.found.journal ds ∙ ap (λ (l : List Event). l ++ own_events c.number ds) (found_own c t p h same)
        ∙ ap (λ (l : List Event). own_events c.number (seen_in p c) ++ l) (own_all c.number ds all ∙ sym added)

-- in an epoch after the pinned one the turn adds nothing
nothing_added : (c : Seen) (t : Turn) (p : ℕ) → IsTurn c t → (seen_after c t).pinned < p → added_in p (visit_of t) ≡ []
nothing_added c t p h past = by_left (same_or_not t.left.epoch p)
  where
    by_added : (ds : List Event) → t.left.epoch ≡ p → Adds t.found t.left ds → All (λ e. who_of e ≡ c.number) ds → All (λ e. who_of e ≢ c.number) t.left.journal → added_in p (visit_of t) ≡ []
    by_added ds here (inl turned) all none =
        let below : t.found.epoch < t.left.epoch = turned.0 in
        let other : t.found.epoch ≢ p = omega arith in
        pick_same t.left.epoch p (if t.found.epoch == p then drop (length t.found.journal) t.left.journal else t.left.journal) [] here ∙ pick_other t.found.epoch p (drop (length t.found.journal) t.left.journal) t.left.journal other
        ∙ both_none c.number t.left.journal (subst (All (λ e. who_of e ≡ c.number)) (sym turned.1) all) none
    by_added ds here (inr on) all none =
        let dropped : drop (length t.found.journal) t.left.journal ≡ ds = ap (drop (length t.found.journal)) on.1 ∙ drop-append_seam t.found.journal ds in
        let rest : All (λ e. who_of e ≢ c.number) ds = subst (All (λ e. who_of e ≢ c.number)) dropped (All-drop (λ e. who_of e ≢ c.number) (length t.found.journal) t.left.journal none) in
        pick_same t.left.epoch p (if t.found.epoch == p then drop (length t.found.journal) t.left.journal else t.left.journal) [] here ∙ pick_same t.found.epoch p (drop (length t.found.journal) t.left.journal) t.left.journal (on.0 ∙ here)
        ∙ dropped ∙ both_none c.number ds all rest

    by_left : (t.left.epoch ≡ p) ⊎ (t.left.epoch ≢ p) → added_in p (visit_of t) ≡ []
    by_left (inl here) =
        let before : (seen_after c t).pinned < t.left.epoch = omega (arith, past, here) in
        by_added (turn_by c t h).added here (turn_by c t h).adds (turn_by c t h).all (h.after.over before)
    by_left (inr other) = pick_other t.left.epoch p (if t.found.epoch == p then drop (length t.found.journal) t.left.journal else t.left.journal) [] other

turn_own : (c : Seen) (t : Turn) (p : ℕ) → IsTurn c t → (seen_after c t).pinned ≤ p → own_events c.number (seen_in p (seen_after c t)) ≡ own_events c.number (seen_in p c) ++ added_in p (visit_of t)
turn_own c t p h le = by_pin (same_or_not (seen_after c t).pinned p)
  where
    by_left : (seen_after c t).pinned ≡ p → (t.left.epoch ≡ (seen_after c t).pinned) ⊎ (t.left.epoch ≢ (seen_after c t).pinned) → own_events c.number (seen_after c t).journal ≡ own_events c.number (seen_in p c) ++ added_in p (visit_of t)
    by_left pin (inl here) = ap (own_events c.number) (pick_same t.left.epoch (seen_after c t).pinned t.left.journal c.journal here) ∙ left_own c t p h (here ∙ pin)
    by_left pin (inr other) =
        let kept : (seen_after c t).pinned ≡ c.pinned = kept_pin t.call c.pinned t.left.epoch other in
        let none : added_in p (visit_of t) ≡ [] = pick_other t.left.epoch p (if t.found.epoch == p then drop (length t.found.journal) t.left.journal else t.left.journal) [] (λ here. other (here ∙ sym pin)) in
        ap (own_events c.number) (pick_other t.left.epoch (seen_after c t).pinned t.left.journal c.journal other)
        ∙ sym (ap (own_events c.number) (pick_same c.pinned p c.journal [] (sym kept ∙ pin))) ∙ sym (append-nil (own_events c.number (seen_in p c))) ∙ ap (λ (l : List Event). own_events c.number (seen_in p c) ++ l) (sym none)

    by_pin : ((seen_after c t).pinned ≡ p) ⊎ ((seen_after c t).pinned ≢ p) → own_events c.number (seen_in p (seen_after c t)) ≡ own_events c.number (seen_in p c) ++ added_in p (visit_of t)
    by_pin (inl pin) = ap (own_events c.number) (pick_same (seen_after c t).pinned p (seen_after c t).journal [] pin) ∙ by_left pin (same_or_not t.left.epoch (seen_after c t).pinned)
    by_pin (inr other) =
        let past : (seen_after c t).pinned < p = omega (arith, le, other) in
        let on : c.left.epoch ≤ t.left.epoch = epoch_after c t h in
        let reached : c.pinned ≤ c.left.epoch = h.before.reached in
        let later : c.pinned ≤ (seen_after c t).pinned = later_pin t.call c.pinned t.left.epoch (omega arith) in
        let before : c.pinned ≢ p = omega (arith, later, past) in
        ap (own_events c.number) (pick_other (seen_after c t).pinned p (seen_after c t).journal [] other) ∙ sym (ap (own_events c.number) (pick_other c.pinned p c.journal [] before))
        ∙ sym (append-nil (own_events c.number (seen_in p c))) ∙ ap (λ (l : List Event). own_events c.number (seen_in p c) ++ l) (sym (nothing_added c t p h past))

-- ALL TURNS

turn_pin : (c : Seen) (t : Turn) → IsTurn c t → c.pinned ≤ (seen_after c t).pinned
turn_pin c t h =
    let on : c.left.epoch ≤ t.left.epoch = epoch_after c t h in
    let reached : c.pinned ≤ c.left.epoch = h.before.reached in
    later_pin t.call c.pinned t.left.epoch (omega arith)

turns_pin : (c : Seen) (ts : List Turn) → AreTurns c ts → c.pinned ≤ (seen_after_all c ts).pinned
turns_pin c [] h = omega arith
turns_pin c (t ∷ ts) h = omega (arith, turn_pin c t h.0, turns_pin (seen_after c t) ts h.1)

turns_own : (c : Seen) (ts : List Turn) (p : ℕ) → AreTurns c ts → (seen_after_all c ts).pinned ≤ p → own_events c.number (seen_in p (seen_after_all c ts)) ≡ own_events c.number (seen_in p c) ++ added_by p (visits_of ts)
turns_own c [] p h le = sym (append-nil (own_events c.number (seen_in p c)))
turns_own c (t ∷ ts) p h le =
    let first : (seen_after c t).pinned ≤ p = omega (arith, turns_pin (seen_after c t) ts h.1, le) in
    turns_own (seen_after c t) ts p h.1 le ∙ ap (λ (l : List Event). l ++ added_by p (visits_of ts)) (turn_own c t p h.0 first) ∙ append_assoc (own_events c.number (seen_in p c)) (added_in p (visit_of t)) (added_by p (visits_of ts))

-- in the pinned epoch the user's events are those that it had seen there before, and then those that its turns appended
pub takes_own : (c d : Seen) (ts : List Turn) → TakesTurns c ts d → own_events d.number d.journal ≡ own_events c.number (seen_in d.pinned c) ++ added_by d.pinned (visits_of ts)
takes_own c d ts h =
    let end = seen_after_all c ts in
    let here : seen_in end.pinned end ≡ end.journal = pick_same end.pinned end.pinned end.journal [] refl in
    let own : own_events c.number end.journal ≡ own_events c.number (seen_in end.pinned c) ++ added_by end.pinned (visits_of ts) = sym (ap (own_events c.number) here) ∙ turns_own c ts end.pinned h.are_turns (omega arith) in
    let number : d.number ≡ c.number = (takes_same c d ts h).0 in
    ap (λ (n : ℕ). own_events n d.journal) number ∙ subst (λ (s : Seen). own_events c.number s.journal ≡ own_events c.number (seen_in s.pinned c) ++ added_by s.pinned (visits_of ts)) (sym h.after) own

-- THE JOURNAL SEEN

-- within an epoch a later seen journal has the earlier one as a prefix
turn_grows : (c : Seen) (t : Turn) → IsTurn c t → (seen_after c t).pinned ≡ c.pinned → (ds : List Event) × ((seen_after c t).journal ≡ c.journal ++ ds)
turn_grows c t h pin = by_left (same_or_not t.left.epoch (seen_after c t).pinned)
  where
    by_parts : t.left.epoch ≡ c.pinned → (xs ys : List Event) → Adds c.left t.found xs → Adds t.found t.left ys → t.left.journal ≡ c.journal ++ (xs ++ ys)
    by_parts here xs ys (inl past) more = absurd (omega (arith, past.0, adds_epoch t.found t.left ys more, here, h.before.reached))
    by_parts here xs ys (inr on) (inl past) = absurd (omega (arith, past.0, on.0, here, h.before.reached))
    by_parts here xs ys (inr on) (inr then_on) =
        let current : c.journal ≡ c.left.journal = h.before.current (sym here ∙ sym then_on.0 ∙ sym on.0) in
        then_on.1 ∙ ap (λ (l : List Event). l ++ ys) (on.1 ∙ ap (λ (l : List Event). l ++ xs) (sym current)) ∙ append_assoc c.journal xs ys

    by_left : (t.left.epoch ≡ (seen_after c t).pinned) ⊎ (t.left.epoch ≢ (seen_after c t).pinned) → (ds : List Event) × ((seen_after c t).journal ≡ c.journal ++ ds)
    by_left (inl here) =
        let by = turn_by c t h in
        (h.goes_on.added ++ by.added, pick_same t.left.epoch (seen_after c t).pinned t.left.journal c.journal here ∙ by_parts (here ∙ pin) h.goes_on.added by.added h.goes_on.adds by.adds)
    by_left (inr other) = ([], pick_other t.left.epoch (seen_after c t).pinned t.left.journal c.journal other ∙ sym (append-nil c.journal))

pub turns_grow : (c : Seen) (ts : List Turn) → AreTurns c ts → (seen_after_all c ts).pinned ≡ c.pinned → (ds : List Event) × ((seen_after_all c ts).journal ≡ c.journal ++ ds)
turns_grow c [] h pin = ([], sym (append-nil c.journal))
turns_grow c (t ∷ ts) h pin =
    let first : c.pinned ≤ (seen_after c t).pinned = turn_pin c t h.0 in
    let second : (seen_after c t).pinned ≤ (seen_after_all (seen_after c t) ts).pinned = turns_pin (seen_after c t) ts h.1 in
    let same : (seen_after c t).pinned ≡ c.pinned = omega (arith, first, second, pin) in
    let one = turn_grows c t h.0 same in
    let rest = turns_grow (seen_after c t) ts h.1 (pin ∙ sym same) in
    (one.0 ++ rest.0, rest.1 ∙ ap (λ (l : List Event). l ++ rest.0) one.1 ∙ append_assoc c.journal one.0 rest.0)

pub takes_grow : (c d : Seen) (ts : List Turn) → TakesTurns c ts d → d.pinned ≡ c.pinned → (ds : List Event) × (d.journal ≡ c.journal ++ ds)
takes_grow c d ts h pin =
    let end = turns_grow c ts h.are_turns (sym (ap (λ (s : Seen). s.pinned) h.after) ∙ pin) in
    (end.0, ap (λ (s : Seen). s.journal) h.after ∙ end.1)

-- a pin below the epoch that was left stays
pin_stays : (c : Seen) (ts : List Turn) → AreTurns c ts → (seen_after_all c ts).pinned < c.left.epoch → (seen_after_all c ts).pinned ≡ c.pinned
pin_stays c [] h below = refl
pin_stays c (t ∷ ts) h below =
    let on : c.left.epoch ≤ t.left.epoch = epoch_after c t h.0 in
    let rest : (seen_after_all (seen_after c t) ts).pinned ≡ (seen_after c t).pinned = pin_stays (seen_after c t) ts h.1 (omega (arith, below, on)) in
    let other : t.left.epoch ≢ (seen_after c t).pinned = λ same. omega (arith, below, on, rest, same) in
    rest ∙ kept_pin t.call c.pinned t.left.epoch other

left_more : (c : Seen) (t : Turn) (xs ys : List Event) → t.left.epoch ≡ c.left.epoch → Adds c.left t.found xs → Adds t.found t.left ys → t.left.journal ≡ c.left.journal ++ (xs ++ ys)
left_more c t xs ys here (inl past) more = absurd (omega (arith, past.0, adds_epoch t.found t.left ys more, here))
left_more c t xs ys here (inr on) (inl past) = absurd (omega (arith, past.0, on.0, here))
left_more c t xs ys here (inr on) (inr then_on) = then_on.1 ∙ ap (λ (l : List Event). l ++ ys) on.1 ∙ append_assoc c.left.journal xs ys

-- what was left in the epoch that is pinned in the end is a prefix of the journal seen then
left_front : (c : Seen) (ts : List Turn) → IsCoherent c → AreTurns c ts → c.left.epoch ≡ (seen_after_all c ts).pinned → (ds : List Event) × ((seen_after_all c ts).journal ≡ c.left.journal ++ ds)
left_front c [] coherent h here = ([], coherent.current (sym here) ∙ sym (append-nil c.left.journal))
left_front c (t ∷ ts) coherent h here = by_epoch (same_or_not t.left.epoch c.left.epoch) (λ same. left_front (seen_after c t) ts h.0.after h.1 (same ∙ here))
  where
    by_epoch : (t.left.epoch ≡ c.left.epoch) ⊎ (t.left.epoch ≢ c.left.epoch)
        → (t.left.epoch ≡ c.left.epoch → (ds : List Event) × ((seen_after_all (seen_after c t) ts).journal ≡ t.left.journal ++ ds))
        → (ds : List Event) × ((seen_after_all (seen_after c t) ts).journal ≡ c.left.journal ++ ds)
    by_epoch (inl same) further =
        let by = turn_by c t h.0 in
        let rest = further same in
        ((h.0.goes_on.added ++ by.added) ++ rest.0, rest.1 ∙ ap (λ (l : List Event). l ++ rest.0) (left_more c t h.0.goes_on.added by.added same h.0.goes_on.adds by.adds) ∙ append_assoc c.left.journal (h.0.goes_on.added ++ by.added) rest.0)
    by_epoch (inr differ) further =
        let on : c.left.epoch ≤ t.left.epoch = epoch_after c t h.0 in
        let below : c.left.epoch < t.left.epoch = omega (arith, on, differ) in
        let rest : (seen_after_all (seen_after c t) ts).pinned ≡ (seen_after c t).pinned = pin_stays (seen_after c t) ts h.1 (omega (arith, here, below)) in
        let other : t.left.epoch ≢ (seen_after c t).pinned = λ same. omega (arith, here, below, rest, same) in
        let pin : (seen_after_all (seen_after c t) ts).pinned ≡ c.pinned = rest ∙ kept_pin t.call c.pinned t.left.epoch other in
        let grown = turns_grow c (t ∷ ts) h pin in
        (grown.0, grown.1 ∙ ap (λ (l : List Event). l ++ grown.0) (coherent.current (sym pin ∙ sym here)))

fronts : (c : Seen) (ts : List Turn) → AreTurns c ts → AreFronts (seen_after_all c ts).pinned ts (seen_after_all c ts).journal
fronts c [] h = tt
fronts c (t ∷ ts) h = ((λ here. left_front (seen_after c t) ts h.0.after h.1 here), fronts (seen_after c t) ts h.1)

-- the journal seen in the end has each journal of its epoch that a turn left as a prefix
pub takes_fronts : (c d : Seen) (ts : List Turn) → TakesTurns c ts d → AreFronts d.pinned ts d.journal
takes_fronts c d ts h = subst (λ (s : Seen). AreFronts s.pinned ts s.journal) (sym h.after) (fronts c ts h.are_turns)

pub turns_split : (c : Seen) (ts us : List Turn) → AreTurns c (ts ++ us) → AreTurns c ts × AreTurns (seen_after_all c ts) us
turns_split c [] us h = (tt, h)
turns_split c (t ∷ ts) us h = let rest = turns_split (seen_after c t) ts us h.1 in ((h.0, rest.0), rest.1)

-- VALUES

turns_keep : (c : Seen) (ts : List Turn) → AreTurns c ts → KeepObjects ts
turns_keep c [] h = tt
turns_keep c (t ∷ ts) h = (h.0.found_lawful.objects, h.0.after.lawful.objects, turns_keep (seen_after c t) ts h.1)

-- the states of the turns keep texts of JSON objects alone
pub takes_keep : (c d : Seen) (ts : List Turn) → TakesTurns c ts d → KeepObjects ts
takes_keep c d ts h = turns_keep c ts h.are_turns
