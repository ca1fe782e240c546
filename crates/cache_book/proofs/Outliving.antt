-- Permits outlive each step that does not spend them.
use Rattle.std.proofs.Common.{◌≡◌, ℕ, ◌≤◌, ◌==◌, Bool, true, false, List, [], ◌∷◌, length, Option, Some, None, refl, sym, arith, subst}
use Rattle.std.specs.Prelude.{MatchBool, if◌then◌else◌}
use Rattle.std.proofs.lemmas.Bool.Decides.{nat_tests}
use Rattle.cache_terms.specs.declared.keys.Key.{Key}
use Rattle.cache_terms.specs.declared.keys.Target.{Target}
use Rattle.cache_terms.specs.declared.events.Event.TheVariants as event
use Rattle.cache_terms.specs.declared.events.Mark.{Mark}
use Rattle.cache_terms.specs.declared.events.Mark.TheVariants as mark
use Rattle.cache_terms.specs.declared.events.Outcome.TheVariants as outcome
use Rattle.cache_book.specs.declared.answers.Settled.{Settled}
use Rattle.cache_book.specs.declared.answers.Turned.{Turned}
use Rattle.cache_book.specs.declared.answers.Turned.TheVariants as turn
use Rattle.cache_book.specs.declared.answers.Voided as voided
use Rattle.cache_book.specs.declared.found.Found.{Found}
use Rattle.cache_book.specs.declared.permit.Report.{Report}
use Rattle.cache_model.specs.State.{State, IsLegalState, begun, turned, turns}
use Rattle.cache_book.specs.Permits.{Pinned, Granted}
use Rattle.cache_book.specs.Looking.{LooksBy, bypass_mark}
use Rattle.cache_book.specs.Settling.{MaySettle, Appends, Leaves, SettlesBy, got_by, probes_after}
use Rattle.cache_book.specs.Voiding.{VoidsBy, turning}
use Rattle.cache_book.specs.Owed.{AreOwed, KeepsOthers, KeepsPermits}
use Rattle.cache_book.specs.Calls.{Call, Answer, Step, Begin, Look, Settle, Invalidate, Tally, Begun, Looked, Closed, Voided, Tallied, OutOfMemory, Spares}
use Rattle.cache_book.proofs.Owing.{asks_keep, asks_owed, permits_kept, bypassed_owed, others_kept, earlier_kept, voided_kept, mark_free}
use Rattle.cache_book.proofs.Stepping.{room_of_look}

begun_outlived : (old : State) (p : Granted) → p.epoch ≤ old.epoch → MaySettle old p → MaySettle (begun old) p
begun_outlived old p began may = from (turns old)
  where
    from : (b : Bool) → MaySettle (if b then turned old else old) p
    from true = earlier_kept old.limits old.epoch old.probes old.journal [] p began may
    from false = may

looks_outlived : (how : Option Mark) (old : State) (pass : Pinned) (id : Option (List ℕ)) (asks : List Key) (now : ℕ) (answers : List Found) (new : State) (p : Granted) → LooksBy how old pass id asks now answers new → MaySettle old p → MaySettle new p
looks_outlived (Some m) old pass id asks now answers new p h may = subst (λ (s : State). MaySettle s p) (sym h.1) may
looks_outlived None old pass id asks now answers new p h may =
    subst (λ (s : State). MaySettle s p) (sym h.1) (permits_kept old.limits old.epoch old.probes old.journal new.journal (asks_keep pass id now asks old.journal answers new.journal h.0) p may)

settles_outlived : (m : Mark) (old : State) (spent : Granted) (r : Report) (c : Settled) (new : State) → spent.mark ≡ m → SettlesBy m old spent r c new → KeepsOthers old spent new
settles_outlived (mark.Ticket t) old spent r c new is h = by_epoch (spent.epoch == old.epoch) refl h
  where
    by_epoch : (b : Bool) → (spent.epoch == old.epoch) ≡ b → MatchBool b (Appends old t spent r c new) (Leaves old (outcome.Over spent.epoch old.epoch) c new) → KeepsOthers old spent new
    by_epoch true test h' =
        let here : spent.epoch ≡ old.epoch = grind (arith, nat_tests) in
        subst (KeepsOthers old spent) (sym h'.after) (others_kept old.limits old.epoch old.probes (probes_after old.probes r c.outcome) old.journal spent.who t (got_by r c.outcome) c.outcome spent is here)
    by_epoch false test h' = subst (KeepsOthers old spent) (sym h'.same) (λ p differ may. may)
settles_outlived (mark.Over u v) old spent r c new is h = subst (KeepsOthers old spent) (sym h.same) (λ p differ may. may)
settles_outlived (mark.Full u v w z) old spent r c new is h = subst (KeepsOthers old spent) (sym h.same) (λ p differ may. may)
settles_outlived (mark.Wide u v) old spent r c new is h = subst (KeepsOthers old spent) (sym h.same) (λ p differ may. may)
settles_outlived mark.Retired old spent r c new is h = subst (KeepsOthers old spent) (sym h.same) (λ p differ may. may)

voids_outlived : (how : Turned) (old : State) (who : ℕ) (target : Target) (v : voided.Voided) (new : State) (p : Granted) → VoidsBy how old who target v new → p.epoch ≤ old.epoch → MaySettle old p → MaySettle new p
voids_outlived turn.No old who target v new p h began may = subst (λ (s : State). MaySettle s p) (sym h.after) (voided_kept old.limits old.epoch old.probes old.journal who target v.count p began may)
voids_outlived (turn.Full n r l) old who target v new p h began may = subst (λ (s : State). MaySettle s p) (sym h.after) (earlier_kept old.limits old.epoch old.probes old.journal (event.Invalidate who target v.count ∷ []) p began may)
voids_outlived turn.Retired old who target v new p h began may = subst (λ (s : State). MaySettle s p) (sym h.same) may

-- a permit of an epoch that has begun may be settled after each step that does not spend it
pub step_outlived : (old : State) (call : Call) (answer : Answer) (new : State) (p : Granted) → Step old call answer new → p.epoch ≤ old.epoch → Spares call p → MaySettle old p → MaySettle new p
step_outlived old (Begin who) (Begun q) new p h began spares may = subst (λ (s : State). MaySettle s p) (sym h.0) (begun_outlived old p began may)
step_outlived old (Look pass id asks now) (Looked fs) new p h began spares may = looks_outlived (bypass_mark old pass (length asks)) old pass id asks now fs new p h may
step_outlived old (Look pass id asks now) OutOfMemory new p h began spares may = subst (λ (s : State). MaySettle s p) (sym h) may
step_outlived old (Settle spent r) (Closed c) new p h began spares may = settles_outlived spent.mark old spent r c new refl h p spares may
step_outlived old (Invalidate who target) (Voided v) new p h began spares may = voids_outlived (turning old) old who target v new p h began may
step_outlived old Tally (Tallied t) new p h began spares may = subst (λ (s : State). MaySettle s p) (sym h.1) may
step_outlived old (Begin who) (Looked fs) new p h began spares may = absurd h
step_outlived old (Begin who) (Closed c) new p h began spares may = absurd h
step_outlived old (Begin who) (Voided v) new p h began spares may = absurd h
step_outlived old (Begin who) (Tallied t) new p h began spares may = absurd h
step_outlived old (Begin who) OutOfMemory new p h began spares may = absurd h
step_outlived old (Look pass id asks now) (Begun q) new p h began spares may = absurd h
step_outlived old (Look pass id asks now) (Closed c) new p h began spares may = absurd h
step_outlived old (Look pass id asks now) (Voided v) new p h began spares may = absurd h
step_outlived old (Look pass id asks now) (Tallied t) new p h began spares may = absurd h
step_outlived old (Settle spent r) (Begun q) new p h began spares may = absurd h
step_outlived old (Settle spent r) (Looked fs) new p h began spares may = absurd h
step_outlived old (Settle spent r) (Voided v) new p h began spares may = absurd h
step_outlived old (Settle spent r) (Tallied t) new p h began spares may = absurd h
step_outlived old (Settle spent r) OutOfMemory new p h began spares may = absurd h
step_outlived old (Invalidate who target) (Begun q) new p h began spares may = absurd h
step_outlived old (Invalidate who target) (Looked fs) new p h began spares may = absurd h
step_outlived old (Invalidate who target) (Closed c) new p h began spares may = absurd h
step_outlived old (Invalidate who target) (Tallied t) new p h began spares may = absurd h
step_outlived old (Invalidate who target) OutOfMemory new p h began spares may = absurd h
step_outlived old Tally (Begun q) new p h began spares may = absurd h
step_outlived old Tally (Looked fs) new p h began spares may = absurd h
step_outlived old Tally (Closed c) new p h began spares may = absurd h
step_outlived old Tally (Voided v) new p h began spares may = absurd h
step_outlived old Tally OutOfMemory new p h began spares may = absurd h

-- a permit may be settled after each look, and after each settle of another
pub look_outlived : (old : State) (pass : Pinned) (id : Option (List ℕ)) (asks : List Key) (now : ℕ) (answers : List Found) (new : State) → Step old (Look pass id asks now) (Looked answers) new → KeepsPermits old new
look_outlived old pass id asks now answers new h p may = looks_outlived (bypass_mark old pass (length asks)) old pass id asks now answers new p h may

pub settle_outlived : (old : State) (spent : Granted) (r : Report) (c : Settled) (new : State) → Step old (Settle spent r) (Closed c) new → KeepsOthers old spent new
settle_outlived old spent r c new h = settles_outlived spent.mark old spent r c new refl h

looks_owed : (how : Option Mark) (old : State) (pass : Pinned) (id : Option (List ℕ)) (asks : List Key) (now : ℕ) (answers : List Found) (new : State) → bypass_mark old pass (length asks) ≡ how → IsLegalState old → LooksBy how old pass id asks now answers new → AreOwed new answers
looks_owed (Some m) old pass id asks now answers new is ok h = subst (AreOwed new) (sym h.0) (bypassed_owed new pass id m asks (mark_free old pass (length asks) m (sym is) new))
looks_owed None old pass id asks now answers new is ok h =
    subst (λ (s : State). AreOwed s answers) (sym h.1) (asks_owed old.limits old.epoch old.probes pass id now asks old.journal answers new.journal ok.legal (room_of_look old pass (length asks) is) h.0)

-- the permits that a look hands out may be settled
pub look_owed : (old : State) (pass : Pinned) (id : Option (List ℕ)) (asks : List Key) (now : ℕ) (answers : List Found) (new : State) → IsLegalState old → Step old (Look pass id asks now) (Looked answers) new → AreOwed new answers
look_owed old pass id asks now answers new ok h = looks_owed (bypass_mark old pass (length asks)) old pass id asks now answers new refl ok h
