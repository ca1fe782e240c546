-- A step keeps texts of JSON objects alone.
use Rattle.std.proofs.Common.{◌≡◌, ℕ, ◌==◌, Bool, true, false, List, [], ◌∷◌, ◌++◌, length, Option, Some, None, All, refl, sym, subst}
use Rattle.std.specs.Prelude.{MatchBool, if◌then◌else◌, IfSome, is_some}
use Rattle.std.proofs.lemmas.List.Elements.{All-cons, All-nil, All-append}
use Rattle.cache_terms.specs.declared.keys.Key.{Key}
use Rattle.cache_terms.specs.declared.keys.Target.{Target}
use Rattle.cache_terms.specs.declared.offers.Offer.{Offer}
use Rattle.cache_terms.specs.declared.offers.Marks.{Marks}
use Rattle.cache_terms.specs.declared.offers.Verdict.{Verdict}
use Rattle.cache_terms.specs.declared.tags.Tags.{Tags}
use Rattle.cache_terms.specs.declared.events.Limits.{Limits}
use Rattle.cache_terms.specs.declared.events.Event.{Event}
use Rattle.cache_terms.specs.declared.events.Event.TheVariants as event
use Rattle.cache_terms.specs.declared.events.Mark.{Mark}
use Rattle.cache_terms.specs.declared.events.Mark.TheVariants as mark
use Rattle.cache_terms.specs.declared.events.Outcome.{Outcome}
use Rattle.cache_terms.specs.declared.events.Outcome.TheVariants as outcome
use Rattle.cache_terms.specs.declared.reasons.Why.{Why}
use Rattle.cache_terms.specs.Offers.{why_of, first_reason, reasons}
use Rattle.cache_book.specs.declared.answers.Settled.{Settled}
use Rattle.cache_book.specs.declared.answers.Turned.{Turned}
use Rattle.cache_book.specs.declared.answers.Turned.TheVariants as turn
use Rattle.cache_book.specs.declared.answers.Voided as voided
use Rattle.cache_book.specs.declared.found.Found.{Found}
use Rattle.cache_book.specs.declared.found.Found.TheVariants as found
use Rattle.cache_book.specs.declared.permit.Report.{Report}
use Rattle.cache_book.specs.declared.permit.Report.TheVariants as report
use Rattle.cache_model.specs.Journal.{Started, starts}
use Rattle.cache_model.specs.Legal.{IsDue, IsDueBy}
use Rattle.cache_model.specs.State.{State, begun, turned, turns}
use Rattle.cache_book.specs.Permits.{Pinned, Granted}
use Rattle.cache_book.specs.Looking.{Asked, AskedAll, LooksBy, bypass_mark}
use Rattle.cache_book.specs.Settling.{SettlesBy, Appends, Leaves, got_by, got_of, value_kept}
use Rattle.cache_book.specs.Voiding.{VoidsBy, turning}
use Rattle.cache_book.specs.Calls.{Call, Answer, Step, Begin, Look, Settle, Invalidate, Tally, Begun, Looked, Closed, Voided, Tallied, OutOfMemory}
use Rattle.cache_seam.specs.Objects.{IsObjectText, OffersObject, CallOffersObject, HasObject, GotObject}

one_more : (J K : List Event) (e : Event) → All HasObject J → HasObject e → K ≡ J ++ e ∷ [] → All HasObject K
one_more J K e all here same = subst (All HasObject) (sym same) (All-append HasObject J (e ∷ []) all (All-cons HasObject e [] here (All-nil HasObject)))

pub asked_objects : (pass : Pinned) (id : Option (List ℕ)) (now : ℕ) (key : Key) (J : List Event) (answer : Found) (K : List Event) → Asked pass id now key J answer K → All HasObject J → All HasObject K
asked_objects pass id now key J (found.Hit l q v m b) K h all = one_more J K (event.Lookup pass.who key id now (Some q)) all tt h.after
asked_objects pass id now key J (found.Miss l p) K h all =
    let e : Event = event.Lookup pass.who key id now None in
    let f : Event = event.Start pass.who (starts J) key id now in
    subst (All HasObject) (sym h.after) (All-append HasObject J (e ∷ f ∷ []) all (All-cons HasObject e (f ∷ []) tt (All-cons HasObject f [] tt (All-nil HasObject))))
asked_objects pass id now key J (found.Bypass p) K h all = subst (All HasObject) (sym h.after) all

asks_objects : (pass : Pinned) (id : Option (List ℕ)) (now : ℕ) (keys : List Key) (J : List Event) (answers : List Found) (K : List Event) → AskedAll pass id now keys J answers K → All HasObject J → All HasObject K
asks_objects pass id now [] J [] K h all = subst (All HasObject) (sym h) all
asks_objects pass id now (k ∷ keys) J (a ∷ answers) K h all = asks_objects pass id now keys (h.0) answers K (h.2) (asked_objects pass id now k J a (h.0) (h.1) all)
asks_objects pass id now [] J (a ∷ answers) K h all = absurd h
asks_objects pass id now (k ∷ keys) J [] K h all = absurd h

looks_objects : (how : Option Mark) (old : State) (pass : Pinned) (id : Option (List ℕ)) (asks : List Key) (now : ℕ) (answers : List Found) (new : State) → LooksBy how old pass id asks now answers new → All HasObject old.journal → All HasObject new.journal
looks_objects (Some m) old pass id asks now answers new h all = subst (λ (s : State). All HasObject s.journal) (sym h.1) all
looks_objects None old pass id asks now answers new h all = asks_objects pass id now asks old.journal answers new.journal h.0 all

none_of : (b : Bool) (w : Why) (rest : List (Bool × Why)) → (if b then Some w else first_reason rest) ≡ None → (b ≡ false) × (first_reason rest ≡ None)
none_of true w rest h = absurd (cc h)
none_of false w rest h = (refl, h)

abbrev NoneHolds : List (Bool × Why) → Type 0
NoneHolds [] = Unit {0}
NoneHolds (r ∷ rs) = (r.0 ≡ false) × NoneHolds rs

none_holds : (rs : List (Bool × Why)) → first_reason rs ≡ None → NoneHolds rs
none_holds [] h = tt
none_holds (r ∷ rs) h = let first = none_of r.0 r.1 rs h in (first.0, none_holds rs first.1)

-- where there is no reason not to keep it, the piece is there
kept_is_there : (marks : Marks) (verdict : Verdict) (tags : Tags) (named : Bool) → why_of marks verdict tags named ≡ None → marks.absent ≡ false
kept_is_there marks verdict tags named none =
    let all : NoneHolds (reasons marks verdict tags named) = none_holds (reasons marks verdict tags named) none in
    all.1.1.1.1.0

-- what is stored is the text of an object
stored_object : (reason : Option Why) (limits : Limits) (J : List Event) (s : Started) (offer : Offer) (out : Outcome) → why_of offer.marks offer.verdict offer.tags (is_some s.id) ≡ reason → OffersObject (report.Got offer)
    → IsDueBy reason limits J s (got_of offer out) out → IfSome (value_kept out offer.value) IsObjectText
stored_object (Some w) limits J s offer outcome.Stored is object due = absurd (cc due)
stored_object None limits J s offer outcome.Stored is object due = object (kept_is_there offer.marks offer.verdict offer.tags (is_some s.id) is)
stored_object reason limits J s offer (outcome.Void p) is object due = tt
stored_object reason limits J s offer (outcome.NoRoom a b c) is object due = tt
stored_object reason limits J s offer (outcome.Unstorable w) is object due = tt
stored_object reason limits J s offer outcome.Failed is object due = tt
stored_object reason limits J s offer (outcome.Over a b) is object due = tt
stored_object reason limits J s offer outcome.Bypassed is object due = tt
stored_object reason limits J s offer outcome.Memory is object due = tt

got_object : (limits : Limits) (J : List Event) (s : Started) (r : Report) (out : Outcome) → OffersObject r → IsDue limits J s (got_by r out) out → GotObject (got_by r out)
got_object limits J s report.Failed out object due = tt
got_object limits J s (report.Got offer) out object due = stored_object (why_of offer.marks offer.verdict offer.tags (is_some s.id)) limits J s offer out refl object due

settled_objects : (m : Mark) (old : State) (p : Granted) (r : Report) (c : Settled) (new : State) → SettlesBy m old p r c new → OffersObject r → All HasObject old.journal → All HasObject new.journal
settled_objects (mark.Ticket t) old p r c new h object all = by_epoch (p.epoch == old.epoch) h
  where
    by_epoch : (b : Bool) → MatchBool b (Appends old t p r c new) (Leaves old (outcome.Over p.epoch old.epoch) c new) → All HasObject new.journal
    by_epoch true h' = subst (λ (s : State). All HasObject s.journal) (sym h'.after) (one_more old.journal (old.journal ++ event.Settle p.who t (got_by r c.outcome) c.outcome ∷ []) (event.Settle p.who t (got_by r c.outcome) c.outcome) all (got_object old.limits old.journal h'.start r c.outcome object h'.due) refl)
    by_epoch false h' = subst (λ (s : State). All HasObject s.journal) (sym h'.same) all
settled_objects (mark.Over u v) old p r c new h object all = subst (λ (s : State). All HasObject s.journal) (sym h.same) all
settled_objects (mark.Full u v w z) old p r c new h object all = subst (λ (s : State). All HasObject s.journal) (sym h.same) all
settled_objects (mark.Wide u v) old p r c new h object all = subst (λ (s : State). All HasObject s.journal) (sym h.same) all
settled_objects mark.Retired old p r c new h object all = subst (λ (s : State). All HasObject s.journal) (sym h.same) all

voids_objects : (how : Turned) (old : State) (who : ℕ) (target : Target) (v : voided.Voided) (new : State) → VoidsBy how old who target v new → All HasObject old.journal → All HasObject new.journal
voids_objects turn.No old who target v new h all = subst (λ (s : State). All HasObject s.journal) (sym h.after) (one_more old.journal (old.journal ++ event.Invalidate who target v.count ∷ []) (event.Invalidate who target v.count) all tt refl)
voids_objects (turn.Full n r l) old who target v new h all = subst (λ (s : State). All HasObject s.journal) (sym h.after) (All-cons HasObject (event.Invalidate who target v.count) [] tt (All-nil HasObject))
voids_objects turn.Retired old who target v new h all = subst (λ (s : State). All HasObject s.journal) (sym h.same) all

begun_objects : (old : State) → All HasObject old.journal → All HasObject (begun old).journal
begun_objects old all = from (turns old)
  where
    from : (b : Bool) → All HasObject (if b then turned old else old).journal
    from true = All-nil HasObject
    from false = all

-- a step that offers the text of an object keeps such texts alone
pub step_objects : (old : State) (call : Call) (answer : Answer) (new : State) → Step old call answer new → CallOffersObject call → All HasObject old.journal → All HasObject new.journal
step_objects old (Begin who) (Begun p) new h object all = subst (λ (s : State). All HasObject s.journal) (sym h.0) (begun_objects old all)
step_objects old (Look pass id asks now) (Looked fs) new h object all = looks_objects (bypass_mark old pass (length asks)) old pass id asks now fs new h all
step_objects old (Look pass id asks now) OutOfMemory new h object all = subst (λ (s : State). All HasObject s.journal) (sym h) all
step_objects old (Settle p r) (Closed c) new h object all = settled_objects p.mark old p r c new h object all
step_objects old (Invalidate who target) (Voided v) new h object all = voids_objects (turning old) old who target v new h all
step_objects old Tally (Tallied t) new h object all = subst (λ (s : State). All HasObject s.journal) (sym h.1) all
step_objects old (Begin who) (Looked fs) new h object all = absurd h
step_objects old (Begin who) (Closed c) new h object all = absurd h
step_objects old (Begin who) (Voided v) new h object all = absurd h
step_objects old (Begin who) (Tallied t) new h object all = absurd h
step_objects old (Begin who) OutOfMemory new h object all = absurd h
step_objects old (Look pass id asks now) (Begun q) new h object all = absurd h
step_objects old (Look pass id asks now) (Closed c) new h object all = absurd h
step_objects old (Look pass id asks now) (Voided v) new h object all = absurd h
step_objects old (Look pass id asks now) (Tallied t) new h object all = absurd h
step_objects old (Settle p r) (Begun q) new h object all = absurd h
step_objects old (Settle p r) (Looked fs) new h object all = absurd h
step_objects old (Settle p r) (Voided v) new h object all = absurd h
step_objects old (Settle p r) (Tallied t) new h object all = absurd h
step_objects old (Settle p r) OutOfMemory new h object all = absurd h
step_objects old (Invalidate who target) (Begun q) new h object all = absurd h
step_objects old (Invalidate who target) (Looked fs) new h object all = absurd h
step_objects old (Invalidate who target) (Closed c) new h object all = absurd h
step_objects old (Invalidate who target) (Tallied t) new h object all = absurd h
step_objects old (Invalidate who target) OutOfMemory new h object all = absurd h
step_objects old Tally (Begun q) new h object all = absurd h
step_objects old Tally (Looked fs) new h object all = absurd h
step_objects old Tally (Closed c) new h object all = absurd h
step_objects old Tally (Voided v) new h object all = absurd h
step_objects old Tally OutOfMemory new h object all = absurd h
