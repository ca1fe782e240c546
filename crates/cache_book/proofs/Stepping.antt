-- What a step leaves: a legal state, with events of its caller alone, in which others' permits may be settled.
use Rattle.std.proofs.Common.{◌≡◌, ◌≢◌, inl, inr, ℕ, ◌+◌, ◌*◌, ◌≤◌, ◌==◌, Bool, true, false, List, [], ◌∷◌, ◌++◌, length, Option, Some, None, All, refl, ap, sym, ◌∙◌, arith, subst, append_assoc}
use Rattle.std.specs.Prelude.{MatchBool, if◌then◌else◌, nat_lt, not, min, ◌^◌, ◌-◌}
use Rattle.std.proofs.lemmas.Bool.Decides.{nat_tests}
use Rattle.std.proofs.lemmas.List.{append-nil}
use Rattle.std.proofs.lemmas.Option.{same_Some}
use Rattle.std.proofs.lemmas.List.Elements.{All-cons, All-nil, All-append}
use Rattle.cache_terms.specs.declared.keys.Key.{Key}
use Rattle.cache_terms.specs.declared.keys.Target.{Target}
use Rattle.cache_terms.specs.declared.events.Limits.{Limits}
use Rattle.cache_terms.specs.declared.events.Event.{Event}
use Rattle.cache_terms.specs.declared.events.Event.TheVariants as event
use Rattle.cache_terms.specs.declared.events.Mark.{Mark}
use Rattle.cache_terms.specs.declared.events.Mark.TheVariants as mark
use Rattle.cache_terms.specs.declared.events.Outcome.TheVariants as outcome
use Rattle.cache_book.specs.declared.answers.Settled.{Settled}
use Rattle.cache_book.specs.declared.answers.Turned.{Turned}
use Rattle.cache_book.specs.declared.answers.Turned.TheVariants as turn
use Rattle.cache_book.specs.declared.answers.Voided as voided
use Rattle.cache_book.specs.declared.found.Found.{Found}
use Rattle.cache_book.specs.declared.found.Found.TheVariants as found
use Rattle.cache_book.specs.declared.permit.Report.{Report}
use Rattle.cache_model.specs.Journal.{Started, starts, start_of, reserved, IsOpen}
use Rattle.cache_model.specs.Legal.{IsLegal, IsDue}
use Rattle.cache_model.specs.State.{State, IsWithinRanges, IsLegalState, opened, begun, turned, turns}
use Rattle.cache_model.specs.Story.{who_of, Adds, Follows, Without, By}
use Rattle.cache_book.specs.Permits.{Pinned, Granted}
use Rattle.cache_book.specs.Looking.{Asked, AskedAll, LooksBy, bypass_mark}
use Rattle.cache_book.specs.Settling.{SettlesBy, Appends, Leaves, MaySettle, MayBy, IsOwed, IsOwedTo, IsInRange, got_by, probes_after}
use Rattle.cache_book.specs.Voiding.{VoidsBy, AppendsVoid, turning}
use Rattle.cache_book.specs.Shown.{AreNew, tickets_of}
use Rattle.cache_book.specs.Calls.{Call, Answer, Step, Run, FoundMemory, MayCall, IsCaller, Begin, Look, Settle, Invalidate, Tally, Begun, Looked, Closed, Voided, Tallied, OutOfMemory}
use Rattle.cache_model.proofs.Legality.{empty_legal, voided_legal}
use Rattle.cache_model.proofs.StoryLaws.{adds_none, follows_refl, follows_trans, by_follows}
use Rattle.cache_model.proofs.Quiet.{open_without}
use Rattle.cache_book.proofs.Asking.{asked_legal, asked_room}
use Rattle.cache_book.proofs.Spending.{appended}
use Rattle.cache_book.proofs.Telling.{asks_new, bypassed_new, mark_is_none}
use Rattle.cache_book.proofs.Determined.{step_unique}

-- BY THE CALLER

asked_adds : (pass : Pinned) (id : Option (List ℕ)) (now : ℕ) (key : Key) (J : List Event) (answer : Found) (K : List Event) → Asked pass id now key J answer K → (ds : List Event) × (K ≡ J ++ ds) × All (λ e. who_of e ≡ pass.who) ds
asked_adds pass id now key J (found.Hit l q v m b) K h = (event.Lookup pass.who key id now (Some q) ∷ [], h.after, All-cons (λ e. who_of e ≡ pass.who) (event.Lookup pass.who key id now (Some q)) [] refl (All-nil (λ e. who_of e ≡ pass.who)))
asked_adds pass id now key J (found.Miss l p) K h =
    let e : Event = event.Lookup pass.who key id now None in
    let f : Event = event.Start pass.who (starts J) key id now in
    (e ∷ f ∷ [], h.after, All-cons (λ e. who_of e ≡ pass.who) e (f ∷ []) refl (All-cons (λ e. who_of e ≡ pass.who) f [] refl (All-nil (λ e. who_of e ≡ pass.who))))
asked_adds pass id now key J (found.Bypass p) K h = ([], h.after ∙ sym (append-nil J), All-nil (λ e. who_of e ≡ pass.who))

asks_add : (pass : Pinned) (id : Option (List ℕ)) (now : ℕ) (keys : List Key) (J : List Event) (answers : List Found) (K : List Event) → AskedAll pass id now keys J answers K → (ds : List Event) × (K ≡ J ++ ds) × All (λ e. who_of e ≡ pass.who) ds
asks_add pass id now [] J [] K all = ([], all ∙ sym (append-nil J), All-nil (λ e. who_of e ≡ pass.who))
asks_add pass id now (k ∷ keys) J (a ∷ answers) K all =
    let first = asked_adds pass id now k J a (all.0) (all.1) in
    let rest = asks_add pass id now keys (all.0) answers K (all.2) in
    (first.0 ++ rest.0, rest.1 ∙ ap (λ (l : List Event). l ++ rest.0) first.1 ∙ append_assoc J (first.0) (rest.0), All-append (λ e. who_of e ≡ pass.who) (first.0) (rest.0) first.2 rest.2)
asks_add pass id now [] J (a ∷ answers) K all = absurd all
asks_add pass id now (k ∷ keys) J [] K all = absurd all

by_itself : (a b : State) (k : ℕ) → b ≡ a → By a b k
by_itself a b k same = subst (λ (s : State). By a s k) (sym same) (record { limits = refl; added = []; adds = adds_none a; all = All-nil (λ e. who_of e ≡ k) })

-- one event of the caller is appended in the same epoch
by_one : (a b : State) (e : Event) (k n : ℕ) → who_of e ≡ k → b ≡ record a { journal = a.journal ++ e ∷ []; probes = n } → By a b k
by_one a b e k n of same = subst (λ (s : State). By a s k) (sym same) (record { limits = refl; added = e ∷ []; adds = inr (refl, refl); all = All-cons (λ x. who_of x ≡ k) e [] of (All-nil (λ x. who_of x ≡ k)) })

-- the epoch turns, and events of the caller follow
by_turn : (a b : State) (ds : List Event) (k : ℕ) → All (λ e. who_of e ≡ k) ds → b ≡ record (turned a) { journal = ds } → By a b k
by_turn a b ds k all same = subst (λ (s : State). By a s k) (sym same) (record { limits = refl; added = ds; adds = inl (omega arith, refl); all = all })

begun_by : (old : State) (k : ℕ) → By old (begun old) k
begun_by old k = from (turns old)
  where
    from : (b : Bool) → By old (if b then turned old else old) k
    from true = by_turn old (turned old) [] k (All-nil (λ e. who_of e ≡ k)) refl
    from false = by_itself old old k refl

looks_by : (how : Option Mark) (old : State) (pass : Pinned) (id : Option (List ℕ)) (asks : List Key) (now : ℕ) (answers : List Found) (new : State) → LooksBy how old pass id asks now answers new → By old new pass.who
looks_by (Some m) old pass id asks now answers new h = by_itself old new pass.who h.1
looks_by None old pass id asks now answers new h =
    let added = asks_add pass id now asks old.journal answers new.journal h.0 in
    let same : new ≡ record old { journal = old.journal ++ added.0 } = h.1 ∙ ap (λ (j : List Event). record old { journal = j }) added.1 in
    subst (λ (s : State). By old s pass.who) (sym same) (record { limits = refl; added = added.0; adds = inr (refl, refl); all = added.2 })

settles_by : (m : Mark) (old : State) (p : Granted) (r : Report) (c : Settled) (new : State) → SettlesBy m old p r c new → By old new p.who
settles_by (mark.Ticket t) old p r c new h = by_epoch (p.epoch == old.epoch) h
  where
    by_epoch : (b : Bool) → MatchBool b (Appends old t p r c new) (Leaves old (outcome.Over p.epoch old.epoch) c new) → By old new p.who
    by_epoch true h' = by_one old new (event.Settle p.who t (got_by r c.outcome) c.outcome) p.who (probes_after old.probes r c.outcome) refl h'.after
    by_epoch false h' = by_itself old new p.who h'.same
settles_by (mark.Over u v) old p r c new h = by_itself old new p.who h.same
settles_by (mark.Full u v w z) old p r c new h = by_itself old new p.who h.same
settles_by (mark.Wide u v) old p r c new h = by_itself old new p.who h.same
settles_by mark.Retired old p r c new h = by_itself old new p.who h.same

voids_by : (how : Turned) (old : State) (who : ℕ) (target : Target) (v : voided.Voided) (new : State) → VoidsBy how old who target v new → By old new who
voids_by turn.No old who target v new h = by_one old new (event.Invalidate who target v.count) who old.probes refl h.after
voids_by (turn.Full n r l) old who target v new h = by_turn old new (event.Invalidate who target v.count ∷ []) who (All-cons (λ e. who_of e ≡ who) (event.Invalidate who target v.count) [] refl (All-nil (λ e. who_of e ≡ who))) h.after
voids_by turn.Retired old who target v new h = by_itself old new who h.same

-- a step adds events of its caller alone
pub step_by : (old : State) (call : Call) (answer : Answer) (new : State) (k : ℕ) → IsCaller call k → Step old call answer new → By old new k
step_by old (Begin who) (Begun p) new k of h = subst (λ (s : State). By old s k) (sym h.0) (begun_by old k)
step_by old (Look pass id asks now) (Looked fs) new k of h = subst (λ (n : ℕ). By old new n) of (looks_by (bypass_mark old pass (length asks)) old pass id asks now fs new h)
step_by old (Look pass id asks now) OutOfMemory new k of h = by_itself old new k h
step_by old (Settle p r) (Closed c) new k of h = subst (λ (n : ℕ). By old new n) of (settles_by p.mark old p r c new h)
step_by old (Invalidate who target) (Voided v) new k of h = subst (λ (n : ℕ). By old new n) of (voids_by (turning old) old who target v new h)
step_by old Tally (Tallied t) new k of h = by_itself old new k h.1
step_by old (Begin who) (Looked fs) new k of h = absurd h
step_by old (Begin who) (Closed c) new k of h = absurd h
step_by old (Begin who) (Voided v) new k of h = absurd h
step_by old (Begin who) (Tallied t) new k of h = absurd h
step_by old (Begin who) OutOfMemory new k of h = absurd h
step_by old (Look pass id asks now) (Begun q) new k of h = absurd h
step_by old (Look pass id asks now) (Closed c) new k of h = absurd h
step_by old (Look pass id asks now) (Voided v) new k of h = absurd h
step_by old (Look pass id asks now) (Tallied t) new k of h = absurd h
step_by old (Settle p r) (Begun q) new k of h = absurd h
step_by old (Settle p r) (Looked fs) new k of h = absurd h
step_by old (Settle p r) (Voided v) new k of h = absurd h
step_by old (Settle p r) (Tallied t) new k of h = absurd h
step_by old (Settle p r) OutOfMemory new k of h = absurd h
step_by old (Invalidate who target) (Begun q) new k of h = absurd h
step_by old (Invalidate who target) (Looked fs) new k of h = absurd h
step_by old (Invalidate who target) (Closed c) new k of h = absurd h
step_by old (Invalidate who target) (Tallied t) new k of h = absurd h
step_by old (Invalidate who target) OutOfMemory new k of h = absurd h
step_by old Tally (Begun q) new k of h = absurd h
step_by old Tally (Looked fs) new k of h = absurd h
step_by old Tally (Closed c) new k of h = absurd h
step_by old Tally (Voided v) new k of h = absurd h
step_by old Tally OutOfMemory new k of h = absurd h

-- LEGAL

asks_legal : (limits : Limits) (pass : Pinned) (id : Option (List ℕ)) (now : ℕ) (keys : List Key) (J : List Event) (answers : List Found) (K : List Event) → IsLegal limits J → length J + reserved J + 3 * length keys ≤ limits.events → AskedAll pass id now keys J answers K → IsLegal limits K
asks_legal limits pass id now [] J [] K legal room all = subst (IsLegal limits) (sym all) legal
asks_legal limits pass id now (k ∷ keys) J (a ∷ answers) K legal room all =
    asks_legal limits pass id now keys (all.0) answers K (asked_legal limits pass id now k J a (all.0) legal (omega (arith, room)) (all.1)) (omega (arith, room, asked_room pass id now k J a (all.0) (all.1))) (all.2)
asks_legal limits pass id now [] J (a ∷ answers) K legal room all = absurd all
asks_legal limits pass id now (k ∷ keys) J [] K legal room all = absurd all

-- a look that is not bypassed has room for three events an ask
pub room_of_look : (s : State) (pass : Pinned) (n : ℕ) → bypass_mark s pass n ≡ None → length s.journal + reserved s.journal + 3 * n ≤ s.limits.events
room_of_look s pass n is = from (s.epoch == 2 ^ 64 - 1) (not (pass.epoch == s.epoch)) (nat_lt s.limits.events (length s.journal + reserved s.journal + 3 * n)) refl is
  where
    from : (a b c : Bool) → nat_lt s.limits.events (length s.journal + reserved s.journal + 3 * n) ≡ c → (if a then Some mark.Retired else (if b then Some (mark.Over pass.epoch s.epoch) else (if c then Some (mark.Full (length s.journal) (reserved s.journal) (min (3 * n) (2 ^ 64 - 1)) s.limits.events) else None))) ≡ None → length s.journal + reserved s.journal + 3 * n ≤ s.limits.events
    from true b c test h = absurd (cc h)
    from false true c test h = absurd (cc h)
    from false false true test h = absurd (cc h)
    from false false false test h = grind (arith, nat_tests)

looks_legal : (how : Option Mark) (old : State) (pass : Pinned) (id : Option (List ℕ)) (asks : List Key) (now : ℕ) (answers : List Found) (new : State) → bypass_mark old pass (length asks) ≡ how → IsLegalState old → LooksBy how old pass id asks now answers new → IsLegalState new
looks_legal (Some m) old pass id asks now answers new is ok h = subst IsLegalState (sym h.1) ok
looks_legal None old pass id asks now answers new is ok h =
    let legal : IsLegal old.limits new.journal = asks_legal old.limits pass id now asks old.journal answers new.journal ok.legal (room_of_look old pass (length asks) is) h.0 in
    subst IsLegalState (sym h.1) (record { legal = legal; ranges = ok.ranges })

settles_legal : (m : Mark) (old : State) (p : Granted) (r : Report) (c : Settled) (new : State) → IsLegalState old → MayBy m old p → IsInRange r → SettlesBy m old p r c new → IsLegalState new
settles_legal (mark.Ticket t) old p r c new ok may range h = by_epoch (p.epoch == old.epoch) refl h
  where
    by_epoch : (b : Bool) → (p.epoch == old.epoch) ≡ b → MatchBool b (Appends old t p r c new) (Leaves old (outcome.Over p.epoch old.epoch) c new) → IsLegalState new
    by_epoch true is h' =
        let here : p.epoch ≡ old.epoch = grind (arith, nat_tests) in
        let owed : IsOwed old t p = may here in
        let to : IsOwedTo old.journal t p.who = record { start = owed.start; unsettled = owed.unsettled; by = sym owed.who } in
        let due = λ (s : Started) (at : start_of old.journal t ≡ Some s). subst (λ (x : Started). IsDue old.limits old.journal x (got_by r c.outcome) c.outcome) (same_Some h'.start s (sym h'.unsettled.started ∙ at)) h'.due in
        let legal = appended old.limits old.journal p.who t r c.outcome ok.legal to range due in
        subst IsLegalState (sym h'.after) (record { legal = legal; ranges = ok.ranges })
    by_epoch false is h' = subst IsLegalState (sym h'.same) ok
settles_legal (mark.Over u v) old p r c new ok may range h = subst IsLegalState (sym h.same) ok
settles_legal (mark.Full u v w z) old p r c new ok may range h = subst IsLegalState (sym h.same) ok
settles_legal (mark.Wide u v) old p r c new ok may range h = subst IsLegalState (sym h.same) ok
settles_legal mark.Retired old p r c new ok may range h = subst IsLegalState (sym h.same) ok

-- an invalidation that does not turn the epoch has room for one event
room_of_void : (s : State) → turning s ≡ turn.No → length s.journal + reserved s.journal + 1 ≤ s.limits.events
room_of_void s is = from (s.epoch == 2 ^ 64 - 1) (nat_lt s.limits.events (length s.journal + reserved s.journal + 1)) refl is
  where
    from : (a c : Bool) → nat_lt s.limits.events (length s.journal + reserved s.journal + 1) ≡ c → (if a then turn.Retired else (if c then turn.Full (length s.journal) (reserved s.journal) s.limits.events else turn.No)) ≡ turn.No → length s.journal + reserved s.journal + 1 ≤ s.limits.events
    from true c test h = absurd (cc h)
    from false true test h = absurd (cc h)
    from false false test h = grind (arith, nat_tests)

void_legal : (old : State) (who : ℕ) (target : Target) (how : Turned) (v : voided.Voided) (new : State) → IsLegalState old → length old.journal + reserved old.journal + 1 ≤ old.limits.events → AppendsVoid old who target how v new → IsLegalState new
void_legal old who target how v new ok room h = subst IsLegalState (sym h.after) (record { legal = voided_legal old.limits old.journal who target v.count ok.legal h.count room; ranges = ok.ranges })

turned_legal : (old : State) → IsLegalState old → IsLegalState (turned old)
turned_legal old ok = record { legal = empty_legal old.limits; ranges = ok.ranges }

voids_legal : (how : Turned) (old : State) (who : ℕ) (target : Target) (v : voided.Voided) (new : State) → turning old ≡ how → IsLegalState old → VoidsBy how old who target v new → IsLegalState new
voids_legal turn.No old who target v new is ok h = void_legal old who target turn.No v new ok (room_of_void old is) h
voids_legal (turn.Full n r l) old who target v new is ok h = void_legal (turned old) who target (turn.Full n r l) v new (turned_legal old ok) (omega (arith, ok.ranges.least_events)) h
voids_legal turn.Retired old who target v new is ok h = subst IsLegalState (sym h.same) ok

begun_legal : (old : State) → IsLegalState old → IsLegalState (begun old)
begun_legal old ok = from (turns old)
  where
    from : (b : Bool) → IsLegalState (if b then turned old else old)
    from true = turned_legal old ok
    from false = ok

-- a step leaves a legal state
pub step_legal : (old : State) (call : Call) (answer : Answer) (new : State) → IsLegalState old → MayCall old call → Step old call answer new → IsLegalState new
step_legal old (Begin who) (Begun p) new ok may h = subst IsLegalState (sym h.0) (begun_legal old ok)
step_legal old (Look pass id asks now) (Looked fs) new ok may h = looks_legal (bypass_mark old pass (length asks)) old pass id asks now fs new refl ok h
step_legal old (Look pass id asks now) OutOfMemory new ok may h = subst IsLegalState (sym h) ok
step_legal old (Settle p r) (Closed c) new ok may h = settles_legal p.mark old p r c new ok may.0 may.1 h
step_legal old (Invalidate who target) (Voided v) new ok may h = voids_legal (turning old) old who target v new refl ok h
step_legal old Tally (Tallied t) new ok may h = subst IsLegalState (sym h.1) ok
step_legal old (Begin who) (Looked fs) new ok may h = absurd h
step_legal old (Begin who) (Closed c) new ok may h = absurd h
step_legal old (Begin who) (Voided v) new ok may h = absurd h
step_legal old (Begin who) (Tallied t) new ok may h = absurd h
step_legal old (Begin who) OutOfMemory new ok may h = absurd h
step_legal old (Look pass id asks now) (Begun q) new ok may h = absurd h
step_legal old (Look pass id asks now) (Closed c) new ok may h = absurd h
step_legal old (Look pass id asks now) (Voided v) new ok may h = absurd h
step_legal old (Look pass id asks now) (Tallied t) new ok may h = absurd h
step_legal old (Settle p r) (Begun q) new ok may h = absurd h
step_legal old (Settle p r) (Looked fs) new ok may h = absurd h
step_legal old (Settle p r) (Voided v) new ok may h = absurd h
step_legal old (Settle p r) (Tallied t) new ok may h = absurd h
step_legal old (Settle p r) OutOfMemory new ok may h = absurd h
step_legal old (Invalidate who target) (Begun q) new ok may h = absurd h
step_legal old (Invalidate who target) (Looked fs) new ok may h = absurd h
step_legal old (Invalidate who target) (Closed c) new ok may h = absurd h
step_legal old (Invalidate who target) (Tallied t) new ok may h = absurd h
step_legal old (Invalidate who target) OutOfMemory new ok may h = absurd h
step_legal old Tally (Begun q) new ok may h = absurd h
step_legal old Tally (Looked fs) new ok may h = absurd h
step_legal old Tally (Closed c) new ok may h = absurd h
step_legal old Tally (Voided v) new ok may h = absurd h
step_legal old Tally OutOfMemory new ok may h = absurd h

-- TICKETS AND PERMITS

looks_new : (how : Option Mark) (old : State) (pass : Pinned) (id : Option (List ℕ)) (asks : List Key) (now : ℕ) (fs : List Found) (new : State) → bypass_mark old pass (length asks) ≡ how → IsLegalState old → LooksBy how old pass id asks now fs new → AreNew old.journal (tickets_of fs)
looks_new (Some m) old pass id asks now fs new is ok h = subst (λ (gs : List Found). AreNew old.journal (tickets_of gs)) (sym h.0) (bypassed_new old.journal pass id m asks (mark_is_none old pass (length asks) m (sym is)))
looks_new None old pass id asks now fs new is ok h = asks_new old.limits pass id now asks old.journal fs new.journal ok.legal.each h.0

pub look_new : (old : State) (pass : Pinned) (id : Option (List ℕ)) (asks : List Key) (now : ℕ) (fs : List Found) (new : State) → IsLegalState old → Step old (Look pass id asks now) (Looked fs) new → AreNew old.journal (tickets_of fs)
look_new old pass id asks now fs new ok h = looks_new (bypass_mark old pass (length asks)) old pass id asks now fs new refl ok h

may_without : (m : Mark) (a b : State) (p : Granted) → IsLegalState b → Without a b p.who → p.epoch ≤ a.epoch → MayBy m a p → MayBy m b p
may_without (mark.Ticket t) a b p ok w le may = λ here. from here w.adds
  where
    from : p.epoch ≡ b.epoch → Adds a b w.added → IsOwed b t p
    from here (inl past) = absurd (omega (arith, le, here, past.0))
    from here (inr on) =
        let owed : IsOwed a t p = may (here ∙ sym on.0) in
        let each = subst (λ (j : List Event). IsLegal b.limits j) on.1 ok.legal in
        let others : All (λ e. who_of e ≢ owed.start.who) w.added = subst (λ (k : ℕ). All (λ e. who_of e ≢ k) w.added) (sym owed.who) w.none in
        let there = open_without b.limits a.journal w.added each.each t owed.start owed.unsettled others in
        record { start = owed.start; unsettled = subst (λ (j : List Event). IsOpen j t owed.start) (sym on.1) there; who = owed.who; key = owed.key; named = owed.named }
may_without (mark.Over u v) a b p ok w le may = tt
may_without (mark.Full u v x y) a b p ok w le may = tt
may_without (mark.Wide u v) a b p ok w le may = tt
may_without mark.Retired a b p ok w le may = tt

-- a permit may be settled where nothing of its caller was added
pub permit_without : (a b : State) (p : Granted) → IsLegalState b → Without a b p.who → p.epoch ≤ a.epoch → MaySettle a p → MaySettle b p
permit_without a b p ok w le may = may_without p.mark a b p ok w le may

-- RUNS

pub run_legal : (old : State) (calls : List Call) (answers : List Answer) (new : State) → IsLegalState old → Run old calls answers new → IsLegalState new
run_legal old [] [] new ok h = subst IsLegalState (sym h) ok
run_legal old (call ∷ calls) (answer ∷ answers) new ok h = run_legal (h.0) calls answers new (step_legal old call answer (h.0) ok (h.1) (h.2)) (h.3)
run_legal old [] (answer ∷ answers) new ok h = absurd h
run_legal old (call ∷ calls) [] new ok h = absurd h

pub opened_legal : (limits : Limits) (first : ℕ) → IsWithinRanges limits → IsLegalState (opened limits first)
opened_legal limits first ranges = record { legal = empty_legal limits; ranges = ranges }

pub run_unique : (old : State) (calls : List Call) (xs ys : List Answer) (new other : State) → FoundMemory xs → FoundMemory ys → Run old calls xs new → Run old calls ys other → (xs ≡ ys) × (new ≡ other)
run_unique old [] [] [] new other p q h k = (refl, h ∙ sym k)
run_unique old (call ∷ calls) (x ∷ xs) (y ∷ ys) new other p q h k =
    let one = step_unique old call x y (h.0) (k.0) (p.0) (q.0) (h.2) (k.2) in
    let rest = run_unique (k.0) calls xs ys new other (p.1) (q.1) (subst (λ (s : State). Run s calls xs new) one.1 (h.3)) (k.3) in
    (cc (one.0, rest.0), rest.1)
run_unique old [] (x ∷ xs) ys new other p q h k = absurd h
run_unique old [] [] (y ∷ ys) new other p q h k = absurd k
run_unique old (call ∷ calls) [] ys new other p q h k = absurd h
run_unique old (call ∷ calls) (x ∷ xs) [] new other p q h k = absurd k

some_caller : (call : Call) → (k : ℕ) × IsCaller call k
some_caller (Begin who) = (who, refl)
some_caller (Look pass id asks now) = (pass.who, refl)
some_caller (Settle p r) = (p.who, refl)
some_caller (Invalidate who target) = (who, refl)
some_caller Tally = (0, tt)

-- a state follows each from which a run leads to it
pub run_follows : (old : State) (calls : List Call) (answers : List Answer) (new : State) → Run old calls answers new → Follows old new
run_follows old [] [] new h = subst (Follows old) (sym h) (follows_refl old)
run_follows old (call ∷ calls) (answer ∷ answers) new h =
    let caller = some_caller call in
    follows_trans old (h.0) new (by_follows (caller.0) old (h.0) (step_by old call answer (h.0) (caller.0) (caller.1) (h.2))) (run_follows (h.0) calls answers new (h.3))
run_follows old [] (answer ∷ answers) new h = absurd h
run_follows old (call ∷ calls) [] new h = absurd h
