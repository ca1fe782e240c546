-- Several looks may be made before the first permit is settled.
use Rattle.std.proofs.Common.{◌≡◌, ◌≢◌, ℕ, ◌≤◌, List, [], ◌∷◌, ◌++◌, length, Option, Some, None, All, refl, ap, sym, subst, ◌∙◌, arith}
use Rattle.std.proofs.lemmas.List.Elements.{All-cons, All-nil, All-append, All-weaker}
use Rattle.cache_terms.specs.declared.keys.Key.{Key}
use Rattle.cache_terms.specs.declared.events.Event.{Event}
use Rattle.cache_terms.specs.declared.events.Mark.{Mark}
use Rattle.cache_terms.specs.declared.events.Mark.TheVariants as mark
use Rattle.cache_book.specs.declared.found.Found.{Found}
use Rattle.cache_book.specs.declared.found.Found.TheVariants as found
use Rattle.cache_model.specs.Journal.{start_of}
use Rattle.cache_model.specs.State.{State}
use Rattle.cache_model.specs.Story.{Without}
use Rattle.cache_book.specs.Permits.{Pinned, Granted}
use Rattle.cache_book.specs.Looking.{LooksBy, bypass_mark, bypassed}
use Rattle.cache_book.specs.Settling.{MaySettle}
use Rattle.cache_book.specs.Shown.{AreNew, tickets_of, ticket_of}
use Rattle.cache_book.specs.Calls.{Call, Look, Looked}
use Rattle.cache_book.proofs.Spending.{owed_by}
use Rattle.cache_book.proofs.Stepping.{permit_without, look_new}
use Rattle.cache_book.proofs.Outliving.{look_outlived}
use Rattle.cache_book.proofs.Telling.{mark_is_none}
use Rattle.cache_seam.specs.Seen.{Seen, pass_of}
use Rattle.cache_seam.specs.Turns.{Calls}
use Rattle.cache_seam.specs.Hand.{permits_of, AreAnswers, AreOfTwoTickets, IsSpendable, IsHand}
use Rattle.cache_seam.proofs.Hands.{step_of, left_of, number_of, epoch_after, hand_of_look, look_answers}
use Rattle.cache_seam.proofs.StandingHits.{looked_here}

-- the permit has no ticket, or a new one of this epoch
abbrev IsFresh : List Event → ℕ → Granted → Type 0
IsFresh J epoch q = (t : ℕ) → q.mark ≡ mark.Ticket t → (start_of J t ≡ None) × (q.epoch ≡ epoch)

new_ticket : (J : List Event) (m : Mark) (ts : List ℕ) → AreNew J (ticket_of m ++ ts) → ((t : ℕ) → m ≡ mark.Ticket t → start_of J t ≡ None) × AreNew J ts
new_ticket J (mark.Ticket u) ts new = ((λ t is. let same : u ≡ t = cc is in subst (λ (n : ℕ). start_of J n ≡ None) same new.0), new.2)
new_ticket J (mark.Over a b) ts new = ((λ t is. absurd (cc is)), new)
new_ticket J (mark.Full a b d e) ts new = ((λ t is. absurd (cc is)), new)
new_ticket J (mark.Wide a b) ts new = ((λ t is. absurd (cc is)), new)
new_ticket J mark.Retired ts new = ((λ t is. absurd (cc is)), new)

fresh_answers : (J : List Event) (pass : Pinned) (id : Option (List ℕ)) (keys : List Key) (answers : List Found) → AreAnswers pass id keys answers → AreNew J (tickets_of answers) → All (IsFresh J pass.epoch) (permits_of answers)
fresh_answers J pass id [] [] h new = All-nil (IsFresh J pass.epoch)
fresh_answers J pass id (k ∷ keys) (found.Hit l q v m b ∷ answers) h new = fresh_answers J pass id keys answers h new
fresh_answers J pass id (k ∷ keys) (found.Miss l p ∷ answers) h new =
    let both = new_ticket J p.mark (tickets_of answers) new in
    All-cons (IsFresh J pass.epoch) p (permits_of answers) (λ t is. (both.0 t is, h.0.epoch)) (fresh_answers J pass id keys answers h.1 both.1)
fresh_answers J pass id (k ∷ keys) (found.Bypass p ∷ answers) h new =
    let both = new_ticket J p.mark (tickets_of answers) new in
    All-cons (IsFresh J pass.epoch) p (permits_of answers) (λ t is. (both.0 t is, h.0.epoch)) (fresh_answers J pass id keys answers h.1 both.1)
fresh_answers J pass id [] (a ∷ answers) h new = absurd h
fresh_answers J pass id (k ∷ keys) [] h new = absurd h

no_tickets : (s : State) (pass : Pinned) (id : Option (List ℕ)) (m : Mark) (keys : List Key) → ticket_of m ≡ [] → All (λ (q : Granted). (t : ℕ) → q.mark ≢ mark.Ticket t) (permits_of (bypassed pass id m keys))
no_tickets s pass id m [] none = All-nil (λ (q : Granted). (t : ℕ) → q.mark ≢ mark.Ticket t)
no_tickets s pass id m (k ∷ keys) none =
    All-cons (λ (q : Granted). (t : ℕ) → q.mark ≢ mark.Ticket t) _ (permits_of (bypassed pass id m keys))
    (λ t is. let clash : t ∷ [] ≡ [] = ap ticket_of (sym is) ∙ none in absurd (cc clash)) (no_tickets s pass id m keys none)

-- a permit that may be settled already is not for a ticket that the look starts
apart_by : (how : Option Mark) (s : State) (pass : Pinned) (id : Option (List ℕ)) (keys : List Key) (now : ℕ) (answers : List Found) (left : State) (p : Granted) → bypass_mark s pass (length keys) ≡ how → LooksBy how s pass id keys now answers left
    → AreAnswers pass id keys answers → AreNew s.journal (tickets_of answers) → MaySettle s p → All (AreOfTwoTickets p) (permits_of answers)
apart_by (Some m) s pass id keys now answers left p is h answered new may =
    All-weaker (λ (q : Granted). (t : ℕ) → q.mark ≢ mark.Ticket t) (AreOfTwoTickets p) (λ q none t pt qt same. none t qt) (permits_of answers)
    (subst (λ (as_given : List Found). All (λ (q : Granted). (t : ℕ) → q.mark ≢ mark.Ticket t) (permits_of as_given)) (sym h.0) (no_tickets s pass id m keys (mark_is_none s pass (length keys) m (sym is))))
apart_by None s pass id keys now answers left p is h answered new may =
    let here : pass.epoch ≡ s.epoch = looked_here s pass (length keys) is in
    All-weaker (IsFresh s.journal pass.epoch) (AreOfTwoTickets p)
    (λ q fresh t pt qt same.
    let one = fresh t qt in
    let owed = owed_by s p t may pt (same ∙ one.1 ∙ here) in
    let clash : None ≡ Some owed.start = sym one.0 ∙ owed.unsettled.started in
    absurd (cc clash))
    (permits_of answers) (fresh_answers s.journal pass id keys answers answered new)

spendable_after : (old new : Seen) (p : Granted) (id : Option (List ℕ)) (keys : List Key) (now : ℕ) (answers : List Found) (h : Calls old (Look (pass_of old) id keys now) (Looked answers) new) → IsSpendable old p → MaySettle h.turn.found p × IsSpendable new p
spendable_after old new p id keys now answers h spendable =
    let call : Call = Look (pass_of old) id keys now in
    let here = left_of old new call (Looked answers) h in
    let found_may : MaySettle h.turn.found p = permit_without old.left h.turn.found p h.is_turn.found_lawful.legal (subst (λ (k : ℕ). Without old.left h.turn.found k) (sym spendable.own) h.is_turn.goes_on) spendable.begun spendable.may in
    let left_may : MaySettle h.turn.left p = look_outlived h.turn.found (pass_of old) id keys now answers h.turn.left (step_of old new call (Looked answers) h) p found_may in
    let later : old.left.epoch ≤ h.turn.left.epoch = epoch_after old h.turn h.is_turn in
    let same : new.left.epoch ≡ h.turn.left.epoch = ap (λ (x : State). x.epoch) here in (
      found_may,
      record {
        own = spendable.own ∙ sym (number_of old new call (Looked answers) h);
        begun = omega (arith, spendable.begun);
        may = subst (λ (x : State). MaySettle x p) (sym here) left_may;
      },
    )

-- the permits of one look more are in hand with those before
pub hand_grows : (old new : Seen) (ps : List Granted) (id : Option (List ℕ)) (keys : List Key) (now : ℕ) (answers : List Found) → IsHand old ps → Calls old (Look (pass_of old) id keys now) (Looked answers) new → IsHand new (ps ++ permits_of answers)
hand_grows old new [] id keys now answers hand h = hand_of_look old new id keys now answers h
hand_grows old new (p ∷ ps) id keys now answers hand h =
    let call : Call = Look (pass_of old) id keys now in
    let both = spendable_after old new p id keys now answers h hand.0 in
    let step = step_of old new call (Looked answers) h in
    let answered = look_answers old new (pass_of old) id keys now answers h in
    let fresh = look_new h.turn.found (pass_of old) id keys now answers h.turn.left h.is_turn.found_lawful.legal step in
    let apart = apart_by (bypass_mark h.turn.found (pass_of old) (length keys)) h.turn.found (pass_of old) id keys now answers h.turn.left p refl step answered fresh both.0 in
    (both.1, All-append (AreOfTwoTickets p) ps (permits_of answers) hand.1 apart, hand_grows old new ps id keys now answers hand.2 h)
