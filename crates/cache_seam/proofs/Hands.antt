-- The permits that a look hands out may all be settled, one after another.
use Rattle.std.proofs.Common.{◌≡◌, ◌≢◌, ℕ, ◌≤◌, List, [], ◌∷◌, ◌++◌, length, Option, Some, None, All, refl, ap, sym, subst, ◌∙◌, arith, inl, inr}
use Rattle.std.proofs.lemmas.List.Elements.{All-cons, All-nil, All-head, All-tail, All-weaker, All-from_get_or}
use Rattle.cache_terms.specs.declared.keys.Key.{Key}
use Rattle.cache_terms.specs.declared.events.Event.{Event}
use Rattle.cache_terms.specs.declared.events.Mark.{Mark}
use Rattle.cache_terms.specs.declared.events.Mark.TheVariants as mark
use Rattle.cache_book.specs.declared.answers.Settled.{Settled}
use Rattle.cache_book.specs.declared.found.Found.{Found}
use Rattle.cache_book.specs.declared.found.Found.TheVariants as found
use Rattle.cache_book.specs.declared.permit.Report.{Report}
use Rattle.cache_model.specs.State.{State}
use Rattle.cache_model.specs.Story.{Adds, Without, By}
use Rattle.cache_book.specs.Permits.{Pinned, Granted}
use Rattle.cache_book.specs.Looking.{AskedAll, LooksBy, bypass_mark, bypassed}
use Rattle.cache_book.specs.Settling.{MaySettle, MayBy}
use Rattle.cache_book.specs.Owed.{AreOwed}
use Rattle.cache_book.specs.Shown.{AreNew, tickets_of, ticket_of}
use Rattle.cache_book.specs.Calls.{Call, Answer, Step, IsCaller, Look, Looked, Settle, Closed, Tally, Begin, Invalidate}
use Rattle.cache_book.proofs.Stepping.{step_by, permit_without, look_new}
use Rattle.cache_book.proofs.Outliving.{look_owed, settle_outlived}
use Rattle.cache_seam.specs.Seen.{Seen, IsCoherent, pass_of}
use Rattle.cache_seam.specs.Turns.{Turn, Calls, IsTurn, IsOwnCall}
use Rattle.cache_seam.specs.Hand.{permits_of, AreAnswers, AreOfTwoTickets, IsSpendable, IsHand}

-- WHAT A CALL KEEPS

pub step_of : (old new : Seen) (call : Call) (answer : Answer) (h : Calls old call answer new) → Step h.turn.found call answer h.turn.left
step_of old new call answer h = subst (λ (a : Answer). Step h.turn.found call a h.turn.left) h.answer_is (subst (λ (c : Call). Step h.turn.found c h.turn.answer h.turn.left) h.call_is h.is_turn.step)

pub left_of : (old new : Seen) (call : Call) (answer : Answer) (h : Calls old call answer new) → new.left ≡ h.turn.left
left_of old new call answer h = ap (λ (c : Seen). c.left) h.after

pub number_of : (old new : Seen) (call : Call) (answer : Answer) → Calls old call answer new → new.number ≡ old.number
number_of old new call answer h = ap (λ (c : Seen). c.number) h.after

pub coherent_after : (old new : Seen) (call : Call) (answer : Answer) → Calls old call answer new → IsCoherent new
coherent_after old new call answer h = subst IsCoherent (sym h.after) h.is_turn.after

pub adds_epoch : (a b : State) (ds : List _) → Adds a b ds → a.epoch ≤ b.epoch
adds_epoch a b ds (inl h) = omega (arith, h.0)
adds_epoch a b ds (inr h) = omega (arith, h.0)

own_caller : (c : Seen) (call : Call) → IsOwnCall c call → IsCaller call c.number
own_caller c (Begin who) h = h
own_caller c (Look pass id asks now) h = ap (λ (p : Pinned). p.who) h.0
own_caller c (Settle p r) h = h
own_caller c (Invalidate who target) h = h
own_caller c Tally h = tt

-- a turn adds events of its user alone
pub turn_by : (c : Seen) (t : Turn) → IsTurn c t → By t.found t.left c.number
turn_by c t h = step_by t.found t.call t.answer t.left c.number (own_caller c t.call h.own) h.step

-- the epoch never goes back
pub epoch_after : (c : Seen) (t : Turn) → IsTurn c t → c.left.epoch ≤ t.left.epoch
epoch_after c t h =
    let by = turn_by c t h in
    let first : c.left.epoch ≤ t.found.epoch = adds_epoch c.left t.found h.goes_on.added h.goes_on.adds in
    let then : t.found.epoch ≤ t.left.epoch = adds_epoch t.found t.left by.added by.adds in
    omega arith

-- PERMITS

-- where a permit is settled, each that is not for its ticket stays as it is
spent_keeps : (m : Mark) (found : State) (p q : Granted) (r : Report) (s : Settled) (left : State) → q.mark ≡ m → Step found (Settle p r) (Closed s) left → AreOfTwoTickets p q → MayBy m found q → MayBy m left q
spent_keeps (mark.Ticket t) found p q r s left is h apart may =
    let kept : MaySettle left q = settle_outlived found p r s left h q (λ marks epochs. apart t (sym marks ∙ is) is (sym epochs)) (subst (λ (n : Mark). MayBy n found q) (sym is) may) in
    subst (λ (n : Mark). MayBy n left q) is kept
spent_keeps (mark.Over a b) found p q r s left is h apart may = tt
spent_keeps (mark.Full a b d e) found p q r s left is h apart may = tt
spent_keeps (mark.Wide a b) found p q r s left is h apart may = tt
spent_keeps mark.Retired found p q r s left is h apart may = tt

spendable_after : (old new : Seen) (p q : Granted) (r : Report) (s : Settled) → Calls old (Settle p r) (Closed s) new → AreOfTwoTickets p q → IsSpendable old q → IsSpendable new q
spendable_after old new p q r s h apart spendable =
    let here = left_of old new (Settle p r) (Closed s) h in
    let number = number_of old new (Settle p r) (Closed s) h in
    let found_may : MaySettle h.turn.found q = permit_without old.left h.turn.found q h.is_turn.found_lawful.legal (subst (λ (k : ℕ). Without old.left h.turn.found k) (sym spendable.own) h.is_turn.goes_on) spendable.begun spendable.may in
    let left_may : MaySettle h.turn.left q = spent_keeps q.mark h.turn.found p q r s h.turn.left refl (step_of old new (Settle p r) (Closed s) h) apart found_may in
    let later : old.left.epoch ≤ h.turn.left.epoch = epoch_after old h.turn h.is_turn in
    let same : new.left.epoch ≡ h.turn.left.epoch = ap (λ (x : State). x.epoch) here in
    record {
      own = spendable.own ∙ sym number;
      begun = omega (arith, spendable.begun);
      may = subst (λ (x : State). MaySettle x q) (sym here) left_may;
    }

others_after : (old new : Seen) (p : Granted) (r : Report) (s : Settled) (ps : List Granted) → Calls old (Settle p r) (Closed s) new → All (AreOfTwoTickets p) ps → IsHand old ps → IsHand new ps
others_after old new p r s [] h apart hand = tt
others_after old new p r s (q ∷ qs) h apart hand = (spendable_after old new p q r s h (All-head (AreOfTwoTickets p) q qs apart) hand.0, hand.1, others_after old new p r s qs h (All-tail (AreOfTwoTickets p) q qs apart) hand.2)

-- where the first permit in hand was settled, the others are still in hand
pub hand_after : (old new : Seen) (p : Granted) (r : Report) (s : Settled) (ps : List Granted) → Calls old (Settle p r) (Closed s) new → IsHand old (p ∷ ps) → IsHand new ps
hand_after old new p r s ps h hand = others_after old new p r s ps h hand.1 hand.2

-- A LOOK

granted_asks : (pass : Pinned) (id : Option (List ℕ)) (now : ℕ) (keys : List Key) (J : List Event) (answers : List Found) (K : List Event) → AskedAll pass id now keys J answers K → AreAnswers pass id keys answers
granted_asks pass id now [] J [] K h = tt
granted_asks pass id now (k ∷ keys) J (found.Hit l q v m b ∷ answers) K h = granted_asks pass id now keys (h.0) answers K (h.2)
granted_asks pass id now (k ∷ keys) J (found.Miss l p ∷ answers) K h =
    (record { who = ap (λ (g : Granted). g.who) (h.1.permit_is); epoch = ap (λ (g : Granted). g.epoch) (h.1.permit_is); key_is = ap (λ (g : Granted). g.key) (h.1.permit_is); named = ap (λ (g : Granted). g.named) (h.1.permit_is) }, granted_asks pass id now keys (h.0) answers K (h.2))
granted_asks pass id now (k ∷ keys) J (found.Bypass p ∷ answers) K h =
    (record { who = ap (λ (g : Granted). g.who) (h.1.permit_is); epoch = ap (λ (g : Granted). g.epoch) (h.1.permit_is); key_is = ap (λ (g : Granted). g.key) (h.1.permit_is); named = ap (λ (g : Granted). g.named) (h.1.permit_is) }, granted_asks pass id now keys (h.0) answers K (h.2))
granted_asks pass id now [] J (a ∷ answers) K h = absurd h
granted_asks pass id now (k ∷ keys) J [] K h = absurd h

granted_bypassed : (pass : Pinned) (id : Option (List ℕ)) (m : Mark) (keys : List Key) → AreAnswers pass id keys (bypassed pass id m keys)
granted_bypassed pass id m [] = tt
granted_bypassed pass id m (k ∷ keys) = (record { who = refl; epoch = refl; key_is = refl; named = refl }, granted_bypassed pass id m keys)

pub looks_granted : (how : Option Mark) (old : State) (pass : Pinned) (id : Option (List ℕ)) (keys : List Key) (now : ℕ) (answers : List Found) (new : State) → LooksBy how old pass id keys now answers new → AreAnswers pass id keys answers
looks_granted (Some m) old pass id keys now answers new h = subst (AreAnswers pass id keys) (sym h.0) (granted_bypassed pass id m keys)
looks_granted None old pass id keys now answers new h = granted_asks pass id now keys old.journal answers new.journal h.0

-- each ask has its answer
pub look_answers : (old new : Seen) (pass : Pinned) (id : Option (List ℕ)) (keys : List Key) (now : ℕ) (answers : List Found) → Calls old (Look pass id keys now) (Looked answers) new → AreAnswers pass id keys answers
look_answers old new pass id keys now answers h = looks_granted (bypass_mark h.turn.found pass (length keys)) h.turn.found pass id keys now answers h.turn.left (step_of old new (Look pass id keys now) (Looked answers) h)

no_ticket : (t : ℕ) (m : Mark) (ts : List ℕ) → All (λ u. u ≢ t) (ticket_of m ++ ts) → (m ≢ mark.Ticket t) × All (λ u. u ≢ t) ts
no_ticket t (mark.Ticket u) ts all = ((λ is. All-head (λ u. u ≢ t) u ts all (cc is)), All-tail (λ u. u ≢ t) u ts all)
no_ticket t (mark.Over a b) ts all = ((λ is. absurd (cc is)), all)
no_ticket t (mark.Full a b d e) ts all = ((λ is. absurd (cc is)), all)
no_ticket t (mark.Wide a b) ts all = ((λ is. absurd (cc is)), all)
no_ticket t mark.Retired ts all = ((λ is. absurd (cc is)), all)

no_tickets : (t : ℕ) (answers : List Found) → All (λ u. u ≢ t) (tickets_of answers) → All (λ (q : Granted). q.mark ≢ mark.Ticket t) (permits_of answers)
no_tickets t [] all = All-nil (λ (q : Granted). q.mark ≢ mark.Ticket t)
no_tickets t (found.Hit l q v m b ∷ answers) all = no_tickets t answers all
no_tickets t (found.Miss l p ∷ answers) all = let both = no_ticket t p.mark (tickets_of answers) all in All-cons (λ (q : Granted). q.mark ≢ mark.Ticket t) p (permits_of answers) both.0 (no_tickets t answers both.1)
no_tickets t (found.Bypass p ∷ answers) all = let both = no_ticket t p.mark (tickets_of answers) all in All-cons (λ (q : Granted). q.mark ≢ mark.Ticket t) p (permits_of answers) both.0 (no_tickets t answers both.1)

-- the ticket of a permit is not among those after it
first_apart : (J : List Event) (m : Mark) (answers : List Found) → AreNew J (ticket_of m ++ tickets_of answers) → (p : Granted) → p.mark ≡ m → All (AreOfTwoTickets p) (permits_of answers)
first_apart J (mark.Ticket t) answers new p is =
    let others : All (λ u. u ≢ t) (tickets_of answers) = All-from_get_or (λ u. u ≢ t) (tickets_of answers) t (λ i less same. new.1 (i, less, same)) in
    All-weaker (λ (q : Granted). q.mark ≢ mark.Ticket t) (AreOfTwoTickets p) (λ q no u pu qu same. no (qu ∙ sym pu ∙ is)) (permits_of answers) (no_tickets t answers others)
first_apart J (mark.Over a b) answers new p is = λ k d less u pu qu same. absurd (cc (sym is ∙ pu))
first_apart J (mark.Full a b d e) answers new p is = λ k x less u pu qu same. absurd (cc (sym is ∙ pu))
first_apart J (mark.Wide a b) answers new p is = λ k d less u pu qu same. absurd (cc (sym is ∙ pu))
first_apart J mark.Retired answers new p is = λ k d less u pu qu same. absurd (cc (sym is ∙ pu))

rest_new : (J : List Event) (m : Mark) (ts : List ℕ) → AreNew J (ticket_of m ++ ts) → AreNew J ts
rest_new J (mark.Ticket t) ts new = new.2
rest_new J (mark.Over a b) ts new = new
rest_new J (mark.Full a b d e) ts new = new
rest_new J (mark.Wide a b) ts new = new
rest_new J mark.Retired ts new = new

hand_of : (c : Seen) (pass : Pinned) (id : Option (List ℕ)) (keys : List Key) (answers : List Found) (J : List Event) → pass.who ≡ c.number → pass.epoch ≤ c.left.epoch → AreAnswers pass id keys answers → AreOwed c.left answers → AreNew J (tickets_of answers) → IsHand c (permits_of answers)
hand_of c pass id [] [] J own begun granted owed new = tt
hand_of c pass id (k ∷ keys) (found.Hit l q v m b ∷ answers) J own begun granted owed new = hand_of c pass id keys answers J own begun granted owed.1 new
hand_of c pass id (k ∷ keys) (found.Miss l p ∷ answers) J own begun granted owed new =
    let e : p.epoch ≡ pass.epoch = granted.0.epoch in
    (record { own = granted.0.who ∙ own; begun = omega arith; may = owed.0 }, first_apart J p.mark answers new p refl, hand_of c pass id keys answers J own begun granted.1 owed.1 (rest_new J p.mark (tickets_of answers) new))
hand_of c pass id (k ∷ keys) (found.Bypass p ∷ answers) J own begun granted owed new =
    let e : p.epoch ≡ pass.epoch = granted.0.epoch in
    (record { own = granted.0.who ∙ own; begun = omega arith; may = owed.0 }, first_apart J p.mark answers new p refl, hand_of c pass id keys answers J own begun granted.1 owed.1 (rest_new J p.mark (tickets_of answers) new))
hand_of c pass id [] (a ∷ answers) J own begun granted owed new = absurd granted
hand_of c pass id (k ∷ keys) [] J own begun granted owed new = absurd granted

-- the permits that a look hands out are in hand
pub hand_of_look : (old new : Seen) (id : Option (List ℕ)) (keys : List Key) (now : ℕ) (answers : List Found) → Calls old (Look (pass_of old) id keys now) (Looked answers) new → IsHand new (permits_of answers)
hand_of_look old new id keys now answers h =
    let call : Call = Look (pass_of old) id keys now in
    let here = left_of old new call (Looked answers) h in
    let step = step_of old new call (Looked answers) h in
    let reached : old.pinned ≤ old.left.epoch = h.is_turn.before.reached in
    let later : old.left.epoch ≤ h.turn.left.epoch = epoch_after old h.turn h.is_turn in
    let same : new.left.epoch ≡ h.turn.left.epoch = ap (λ (x : State). x.epoch) here in
    let begun : old.pinned ≤ new.left.epoch = omega arith in
    hand_of new (pass_of old) id keys answers h.turn.found.journal (sym (number_of old new call (Looked answers) h)) begun
    (look_answers old new (pass_of old) id keys now answers h)
    (subst (λ (x : State). AreOwed x answers) (sym here) (look_owed h.turn.found (pass_of old) id keys now answers h.turn.left h.is_turn.found_lawful.legal step))
    (look_new h.turn.found (pass_of old) id keys now answers h.turn.left h.is_turn.found_lawful.legal step)
