-- A step is a function of state and call, but for want of memory.
use Rattle.std.proofs.Common.{◌≡◌, ◌≢◌, ℕ, ◌==◌, Bool, true, false, List, [], ◌∷◌, ◌++◌, length, Option, Some, None, refl, ap, sym, ◌∙◌, arith, subst}
use Rattle.std.specs.Prelude.{MatchBool, is_some}
use Rattle.std.proofs.lemmas.Option.{same_Some}
use Rattle.cache_terms.specs.declared.keys.Key.{Key}
use Rattle.cache_terms.specs.declared.keys.Target.{Target}
use Rattle.cache_terms.specs.declared.events.Limits.{Limits}
use Rattle.cache_terms.specs.declared.events.Event.{Event}
use Rattle.cache_terms.specs.declared.events.Event.TheVariants as event
use Rattle.cache_terms.specs.declared.events.Mark.{Mark}
use Rattle.cache_terms.specs.declared.events.Mark.TheVariants as mark
use Rattle.cache_terms.specs.declared.events.Outcome.{Outcome}
use Rattle.cache_terms.specs.declared.events.Outcome.TheVariants as outcome
use Rattle.cache_terms.specs.Offers.{why_of}
use Rattle.cache_book.specs.declared.answers.Settled.{Settled}
use Rattle.cache_book.specs.declared.answers.Turned.{Turned}
use Rattle.cache_book.specs.declared.answers.Turned.TheVariants as turn
use Rattle.cache_book.specs.declared.answers.Voided as voided
use Rattle.cache_book.specs.declared.found.Found.{Found}
use Rattle.cache_book.specs.declared.found.Found.TheVariants as found
use Rattle.cache_book.specs.declared.permit.Report.{Report}
use Rattle.cache_book.specs.declared.permit.Report.TheVariants as report
use Rattle.cache_model.specs.Journal.{Started, Kept, kept_at, remaining, IsHeldUnder}
use Rattle.cache_model.specs.Legal.{IsDue}
use Rattle.cache_model.specs.State.{State, begun, turned}
use Rattle.cache_book.specs.Permits.{Pinned, Granted}
use Rattle.cache_book.specs.Looking.{Asked, AskedAll, IsHit, Looks, LooksBy, bypass_mark}
use Rattle.cache_book.specs.Settling.{Settles, SettlesBy, Appends, Leaves, got_by, got_of, probes_after}
use Rattle.cache_book.specs.Voiding.{Voids, VoidsBy, AppendsVoid, turning, tally_of}
use Rattle.cache_book.specs.Calls.{Call, Answer, Step, Begin, Look, Settle, Invalidate, Tally, Begun, Looked, Closed, Voided, Tallied, OutOfMemory, IsWantOfMemory}
use Rattle.cache_model.proofs.Unique.{choice_unique, count_unique, due_by_unique}

hit_unique : (pass : Pinned) (id : Option (List ℕ)) (now : ℕ) (key : Key) (J : List Event) (l l' q q' : ℕ) (v v' : List ℕ) (m m' : ℕ) (b b' : Bool) (K K' : List Event)
    → IsHit pass id now key J l q v m b K → IsHit pass id now key J l' q' v' m' b' K' → (found.Hit l q v m b ≡ found.Hit l' q' v' m' b') × (K ≡ K')
hit_unique pass id now key J l l' q q' v v' m m' b b' K K' x y =
    let same : q ≡ q' = same_Some q q' (choice_unique J key id now (Some q) (Some q') x.choice y.choice) in
    let kept : x.kept ≡ y.kept = same_Some x.kept y.kept (sym x.kept_is ∙ ap (kept_at J) same ∙ y.kept_is) in
    let value : v ≡ v' = same_Some v v' (sym x.value_is ∙ ap (λ (k : Kept). k.value) kept ∙ y.value_is) in
    let left : m ≡ m' = x.left_is ∙ ap (λ (k : Kept). remaining k now) kept ∙ sym y.left_is in
    let own : b ≡ b' = x.private_is ∙ ap (λ (k : Kept). k.verdict.private) kept ∙ sym y.private_is in
    let looked : l ≡ l' = x.lookup_is ∙ sym y.lookup_is in
    (cc (same, value, left, own, looked), x.after ∙ ap (λ (n : ℕ). J ++ event.Lookup pass.who key id now (Some n) ∷ []) same ∙ sym y.after)

asked_unique : (pass : Pinned) (id : Option (List ℕ)) (now : ℕ) (key : Key) (J : List Event) (a b : Found) (K L : List Event) → Asked pass id now key J a K → Asked pass id now key J b L → (a ≡ b) × (K ≡ L)
asked_unique pass id now key J (found.Hit l q v m c) (found.Hit l' q' v' m' c') K L x y = hit_unique pass id now key J l l' q q' v v' m m' c c' K L x y
asked_unique pass id now key J (found.Hit l q v m c) (found.Miss l' p) K L x y = absurd (cc (choice_unique J key id now (Some q) None x.choice y.choice))
asked_unique pass id now key J (found.Hit l q v m c) (found.Bypass p) K L x y = absurd (omega (arith, x.narrow, y.wide))
asked_unique pass id now key J (found.Miss l p) (found.Hit l' q v m c) K L x y = absurd (cc (choice_unique J key id now None (Some q) x.choice y.choice))
asked_unique pass id now key J (found.Miss l p) (found.Miss l' p') K L x y =
    let looked : l ≡ l' = x.lookup_is ∙ sym y.lookup_is in
    let permit : p ≡ p' = x.permit_is ∙ sym y.permit_is in
    (cc (looked, permit), x.after ∙ sym y.after)
asked_unique pass id now key J (found.Miss l p) (found.Bypass p') K L x y = absurd (omega (arith, x.narrow, y.wide))
asked_unique pass id now key J (found.Bypass p) (found.Hit l q v m c) K L x y = absurd (omega (arith, x.wide, y.narrow))
asked_unique pass id now key J (found.Bypass p) (found.Miss l p') K L x y = absurd (omega (arith, x.wide, y.narrow))
asked_unique pass id now key J (found.Bypass p) (found.Bypass p') K L x y = (ap (λ (g : Granted). found.Bypass g) (x.permit_is ∙ sym y.permit_is), x.after ∙ sym y.after)

asks_unique : (pass : Pinned) (id : Option (List ℕ)) (now : ℕ) (keys : List Key) (J : List Event) (fs gs : List Found) (K L : List Event) → AskedAll pass id now keys J fs K → AskedAll pass id now keys J gs L → (fs ≡ gs) × (K ≡ L)
asks_unique pass id now [] J [] [] K L x y = (refl, x ∙ sym y)
asks_unique pass id now (k ∷ keys) J (a ∷ fs) (b ∷ gs) K L x y =
    let one = asked_unique pass id now k J a b (x.0) (y.0) (x.1) (y.1) in
    let rest = asks_unique pass id now keys (y.0) fs gs K L (subst (λ (M : List Event). AskedAll pass id now keys M fs K) one.1 (x.2)) (y.2) in
    (cc (one.0, rest.0), rest.1)
asks_unique pass id now [] J (a ∷ fs) gs K L x y = absurd x
asks_unique pass id now [] J [] (b ∷ gs) K L x y = absurd y
asks_unique pass id now (k ∷ keys) J [] gs K L x y = absurd x
asks_unique pass id now (k ∷ keys) J (a ∷ fs) [] K L x y = absurd y

looks_unique : (how : Option Mark) (old : State) (pass : Pinned) (id : Option (List ℕ)) (asks : List Key) (now : ℕ) (fs gs : List Found) (new other : State) → LooksBy how old pass id asks now fs new → LooksBy how old pass id asks now gs other → (fs ≡ gs) × (new ≡ other)
looks_unique (Some m) old pass id asks now fs gs new other x y = (x.0 ∙ sym y.0, x.1 ∙ sym y.1)
looks_unique None old pass id asks now fs gs new other x y =
    let same = asks_unique pass id now asks old.journal fs gs new.journal other.journal (x.0) (y.0) in
    (same.0, x.1 ∙ ap (λ (j : List Event). record old { journal = j }) same.1 ∙ sym y.1)

due_once : (r : Report) (limits : Limits) (J : List Event) (s : Started) (a b : Outcome) → a ≢ outcome.Memory → b ≢ outcome.Memory → IsDue limits J s (got_by r a) a → IsDue limits J s (got_by r b) b → a ≡ b
due_once report.Failed limits J s a b found also x y = x ∙ sym y
due_once (report.Got offer) limits J s a b found also x y = due_by_unique (why_of offer.marks offer.verdict offer.tags (is_some s.id)) limits J s (got_of offer a) (got_of offer b) a b refl refl found also x y

appends_unique : (old : State) (t : ℕ) (p : Granted) (r : Report) (a b : Settled) (new other : State) → a.outcome ≢ outcome.Memory → b.outcome ≢ outcome.Memory → Appends old t p r a new → Appends old t p r b other → (a ≡ b) × (new ≡ other)
appends_unique old t p r a b new other found also x y =
    let start : x.start ≡ y.start = same_Some x.start y.start (sym x.unsettled.started ∙ y.unsettled.started) in
    let here : IsDue old.limits old.journal x.start (got_by r b.outcome) b.outcome = subst (λ (s : Started). IsDue old.limits old.journal s (got_by r b.outcome) b.outcome) (sym start) y.due in
    let out : a.outcome ≡ b.outcome = due_once r old.limits old.journal x.start a.outcome b.outcome found also x.due here in
    let place : a.position ≡ b.position = x.position ∙ sym y.position in
    let first : a ≡ record { position = b.position; outcome = a.outcome } = ap (λ (o : Option ℕ). record { position = o; outcome = a.outcome }) place in
    let second : record { position = b.position; outcome = a.outcome } ≡ b = ap (λ (o : Outcome). record { position = b.position; outcome = o }) out in
    (first ∙ second, x.after ∙ ap (λ (o : Outcome). record old { journal = old.journal ++ event.Settle p.who t (got_by r o) o ∷ []; probes = probes_after old.probes r o }) out ∙ sym y.after)

leaves_unique : (old : State) (out : Outcome) (a b : Settled) (new other : State) → Leaves old out a new → Leaves old out b other → (a ≡ b) × (new ≡ other)
leaves_unique old out a b new other x y = (x.answer_is ∙ sym y.answer_is, x.same ∙ sym y.same)

settles_unique : (m : Mark) (old : State) (p : Granted) (r : Report) (a b : Settled) (new other : State) → a.outcome ≢ outcome.Memory → b.outcome ≢ outcome.Memory → SettlesBy m old p r a new → SettlesBy m old p r b other → (a ≡ b) × (new ≡ other)
settles_unique (mark.Ticket t) old p r a b new other found also x y = by_epoch (p.epoch == old.epoch) x y
  where
    by_epoch : (c : Bool) → MatchBool c (Appends old t p r a new) (Leaves old (outcome.Over p.epoch old.epoch) a new) → MatchBool c (Appends old t p r b other) (Leaves old (outcome.Over p.epoch old.epoch) b other) → (a ≡ b) × (new ≡ other)
    by_epoch true x' y' = appends_unique old t p r a b new other found also x' y'
    by_epoch false x' y' = leaves_unique old (outcome.Over p.epoch old.epoch) a b new other x' y'
settles_unique (mark.Over u v) old p r a b new other found also x y = leaves_unique old outcome.Bypassed a b new other x y
settles_unique (mark.Full u v w z) old p r a b new other found also x y = leaves_unique old outcome.Bypassed a b new other x y
settles_unique (mark.Wide u v) old p r a b new other found also x y = leaves_unique old outcome.Bypassed a b new other x y
settles_unique mark.Retired old p r a b new other found also x y = leaves_unique old outcome.Bypassed a b new other x y

void_unique : (old : State) (who : ℕ) (target : Target) (how : Turned) (a b : voided.Voided) (new other : State) → AppendsVoid old who target how a new → AppendsVoid old who target how b other → (a ≡ b) × (new ≡ other)
void_unique old who target how a b new other x y =
    let count : a.count ≡ b.count = count_unique (IsHeldUnder old.journal target) (length old.journal) a.count b.count x.count y.count in
    let epoch : a.epoch ≡ b.epoch = x.epoch ∙ sym y.epoch in
    let place : a.position ≡ b.position = x.position ∙ sym y.position in
    let how_is : a.turned ≡ b.turned = x.turned_is ∙ sym y.turned_is in
    let one : a ≡ record a { epoch = b.epoch } = ap (λ (n : ℕ). record a { epoch = n }) epoch in
    let two : record a { epoch = b.epoch } ≡ record b { count = a.count; turned = a.turned } = ap (λ (n : ℕ). record b { position = n; count = a.count; turned = a.turned }) place in
    let three : record b { count = a.count; turned = a.turned } ≡ record b { turned = a.turned } = ap (λ (n : ℕ). record b { count = n; turned = a.turned }) count in
    let four : record b { turned = a.turned } ≡ b = ap (λ (t : Turned). record b { turned = t }) how_is in
    (one ∙ two ∙ three ∙ four, x.after ∙ ap (λ (n : ℕ). record old { journal = old.journal ++ event.Invalidate who target n ∷ [] }) count ∙ sym y.after)

voids_unique : (how : Turned) (old : State) (who : ℕ) (target : Target) (a b : voided.Voided) (new other : State) → VoidsBy how old who target a new → VoidsBy how old who target b other → (a ≡ b) × (new ≡ other)
voids_unique turn.No old who target a b new other x y = void_unique old who target turn.No a b new other x y
voids_unique (turn.Full n r l) old who target a b new other x y = void_unique (turned old) who target (turn.Full n r l) a b new other x y
voids_unique turn.Retired old who target a b new other x y = (x.answer_is ∙ sym y.answer_is, x.same ∙ sym y.same)

-- what each call answers, where memory is found
begin_answers : (old : State) (who : ℕ) (a : Answer) (new : State) → Step old (Begin who) a new → (a ≡ Begun (record { who = who; epoch = (begun old).epoch })) × (new ≡ begun old)
begin_answers old who (Begun p) new x = (ap (λ (q : Pinned). Begun q) (x.1 ∙ ap (λ (s : State). record { who = who; epoch = s.epoch }) x.0), x.0)
begin_answers old who (Looked fs) new x = absurd x
begin_answers old who (Closed c) new x = absurd x
begin_answers old who (Voided v) new x = absurd x
begin_answers old who (Tallied t) new x = absurd x
begin_answers old who OutOfMemory new x = absurd x

look_answers : (old : State) (pass : Pinned) (id : Option (List ℕ)) (asks : List Key) (now : ℕ) (a : Answer) (new : State) → (IsWantOfMemory a → ⊥) → Step old (Look pass id asks now) a new → (fs : List Found) × (a ≡ Looked fs) × Looks old pass id asks now fs new
look_answers old pass id asks now (Begun p) new ok x = absurd x
look_answers old pass id asks now (Looked fs) new ok x = (fs, refl, x)
look_answers old pass id asks now (Closed c) new ok x = absurd x
look_answers old pass id asks now (Voided v) new ok x = absurd x
look_answers old pass id asks now (Tallied t) new ok x = absurd x
look_answers old pass id asks now OutOfMemory new ok x = absurd (ok tt)

settle_answers : (old : State) (p : Granted) (r : Report) (a : Answer) (new : State) → Step old (Settle p r) a new → (c : Settled) × (a ≡ Closed c) × Settles old p r c new
settle_answers old p r (Begun q) new x = absurd x
settle_answers old p r (Looked fs) new x = absurd x
settle_answers old p r (Closed c) new x = (c, refl, x)
settle_answers old p r (Voided v) new x = absurd x
settle_answers old p r (Tallied t) new x = absurd x
settle_answers old p r OutOfMemory new x = absurd x

invalidate_answers : (old : State) (who : ℕ) (target : Target) (a : Answer) (new : State) → Step old (Invalidate who target) a new → (v : voided.Voided) × (a ≡ Voided v) × Voids old who target v new
invalidate_answers old who target (Begun q) new x = absurd x
invalidate_answers old who target (Looked fs) new x = absurd x
invalidate_answers old who target (Closed c) new x = absurd x
invalidate_answers old who target (Voided v) new x = (v, refl, x)
invalidate_answers old who target (Tallied t) new x = absurd x
invalidate_answers old who target OutOfMemory new x = absurd x

tally_answers : (old : State) (a : Answer) (new : State) → Step old Tally a new → (a ≡ Tallied (tally_of old)) × (new ≡ old)
tally_answers old (Begun q) new x = absurd x
tally_answers old (Looked fs) new x = absurd x
tally_answers old (Closed c) new x = absurd x
tally_answers old (Voided v) new x = absurd x
tally_answers old (Tallied t) new x = (ap (λ u. Tallied u) x.0, x.1)
tally_answers old OutOfMemory new x = absurd x

pub step_unique : (old : State) (call : Call) (a b : Answer) (new other : State) → (IsWantOfMemory a → ⊥) → (IsWantOfMemory b → ⊥) → Step old call a new → Step old call b other → (a ≡ b) × (new ≡ other)
step_unique old (Begin who) a b new other ok ok' x y =
    let p = begin_answers old who a new x in
    let q = begin_answers old who b other y in
    (p.0 ∙ sym q.0, p.1 ∙ sym q.1)
step_unique old (Look pass id asks now) a b new other ok ok' x y =
    let p = look_answers old pass id asks now a new ok x in
    let q = look_answers old pass id asks now b other ok' y in
    let same = looks_unique (bypass_mark old pass (length asks)) old pass id asks now (p.0) (q.0) new other (p.2) (q.2) in
    (p.1 ∙ ap (λ (fs : List Found). Looked fs) same.0 ∙ sym q.1, same.1)
step_unique old (Settle p r) a b new other ok ok' x y =
    let u = settle_answers old p r a new x in
    let v = settle_answers old p r b other y in
    let same = settles_unique p.mark old p r (u.0) (v.0) new other (λ is. ok (subst IsWantOfMemory (sym u.1) is)) (λ is. ok' (subst IsWantOfMemory (sym v.1) is)) (u.2) (v.2) in
    (u.1 ∙ ap (λ (c : Settled). Closed c) same.0 ∙ sym v.1, same.1)
step_unique old (Invalidate who target) a b new other ok ok' x y =
    let u = invalidate_answers old who target a new x in
    let v = invalidate_answers old who target b other y in
    let same = voids_unique (turning old) old who target (u.0) (v.0) new other (u.2) (v.2) in
    (u.1 ∙ ap (λ (c : voided.Voided). Voided c) same.0 ∙ sym v.1, same.1)
step_unique old Tally a b new other ok ok' x y =
    let p = tally_answers old a new x in
    let q = tally_answers old b other y in
    (p.0 ∙ sym q.0, p.1 ∙ sym q.1)
