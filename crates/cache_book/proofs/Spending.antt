-- What a settle finds and leaves.
use Rattle.std.proofs.Common.{◌≡◌, ℕ, ◌<◌, List, [], ◌∷◌, ◌++◌, length, Some, None, refl, sym, subst, arith, eq-eqb, ◌==◌, true}
use Rattle.std.specs.Prelude.{MatchBool}
use Rattle.cache_terms.specs.declared.events.Limits.{Limits}
use Rattle.cache_terms.specs.declared.events.Event.{Event}
use Rattle.cache_terms.specs.declared.events.Event.TheVariants.{Settle}
use Rattle.cache_terms.specs.declared.events.Mark.{Mark}
use Rattle.cache_terms.specs.declared.events.Mark.TheVariants as mark
use Rattle.cache_book.specs.declared.answers.Settled.{Settled}
use Rattle.cache_terms.specs.declared.events.Outcome.{Outcome}
use Rattle.cache_terms.specs.declared.events.Outcome.TheVariants as outcome
use Rattle.cache_book.specs.declared.permit.Report.{Report}
use Rattle.cache_book.specs.declared.permit.Report.TheVariants as report
use Rattle.cache_model.specs.Journal.{Started, start_of, IsOpen}
use Rattle.cache_model.specs.Legal.{IsLegal, IsDue, HasValueIfStored, HasRange}
use Rattle.cache_model.specs.State.{State}
use Rattle.cache_book.specs.Permits.{Granted}
use Rattle.cache_book.specs.Settling.{IsOwedTo, MayBy, MaySettle, IsOwed, IsInRange, got_by, Appends, Leaves, SettlesBy, Settles, probes_after}
use Rattle.cache_model.proofs.Growth.{reserved_settled}
use Rattle.cache_model.proofs.Legality.{room_of, settled_legal}

owed_at : (m : Mark) (s : State) (p : Granted) (t : ℕ) → m ≡ mark.Ticket t → MayBy m s p → p.epoch ≡ s.epoch → IsOwed s t p
owed_at m s p t is may here = subst (λ (n : Mark). MayBy n s p) is may here

-- a permit with a ticket of the current epoch is owed its Settle
pub owed_by : (s : State) (p : Granted) (t : ℕ) → MaySettle s p → p.mark ≡ mark.Ticket t → p.epoch ≡ s.epoch → IsOwed s t p
owed_by s p t may is here = owed_at p.mark s p t is may here

-- an open ticket has kept the room for its Settle
pub room_to_settle : (limits : Limits) (J : List Event) (t : ℕ) (s : Started) → IsLegal limits J → IsOpen J t s → length J < limits.events
room_to_settle limits J t s legal owed = omega (arith, room_of limits J legal.each, reserved_settled J 0 t None outcome.Failed s owed)

pub value_if_stored : (r : Report) (out : Outcome) → HasValueIfStored (got_by r out) out
value_if_stored report.Failed out = tt
value_if_stored (report.Got offer) outcome.Stored = refl
value_if_stored (report.Got offer) (outcome.Void p) = refl
value_if_stored (report.Got offer) (outcome.NoRoom a b c) = refl
value_if_stored (report.Got offer) (outcome.Unstorable w) = refl
value_if_stored (report.Got offer) outcome.Failed = refl
value_if_stored (report.Got offer) (outcome.Over a b) = refl
value_if_stored (report.Got offer) outcome.Bypassed = refl
value_if_stored (report.Got offer) outcome.Memory = refl

pub range_of : (r : Report) (out : Outcome) → IsInRange r → HasRange (got_by r out)
range_of report.Failed out h = tt
range_of (report.Got offer) out h = h

-- what `append_settle` finds and leaves
pub appended : (limits : Limits) (J : List Event) (who t : ℕ) (r : Report) (out : Outcome) → IsLegal limits J → IsOwedTo J t who → IsInRange r → ((s : Started) → start_of J t ≡ Some s → IsDue limits J s (got_by r out) out)
    → IsLegal limits (J ++ Settle who t (got_by r out) out ∷ [])
appended limits J who t r out legal owed range due = settled_legal limits J who t (got_by r out) out owed.start legal owed.unsettled owed.by (due owed.start owed.unsettled.started) (value_if_stored r out) (range_of r out range)

settles_at : (m : Mark) (old : State) (p : Granted) (r : Report) (answer : Settled) (new : State) (t : ℕ) → m ≡ mark.Ticket t → (p.epoch == old.epoch) ≡ true → Appends old t p r answer new → SettlesBy m old p r answer new
settles_at m old p r answer new t is here h =
    let now : MatchBool (p.epoch == old.epoch) (Appends old t p r answer new) (Leaves old (outcome.Over p.epoch old.epoch) answer new) = rw here h in
    subst (λ (n : Mark). SettlesBy n old p r answer new) (sym is) now

-- a settle that appends is the step that is due
pub settles_owed : (limits : Limits) (epoch n : ℕ) (J : List Event) (p : Granted) (r : Report) (t : ℕ) (out : Outcome)
    → p.mark ≡ mark.Ticket t → p.epoch ≡ epoch → MaySettle (record { limits = limits; epoch = epoch; journal = J; probes = n }) p
    → ((s : Started) → start_of J t ≡ Some s → IsDue limits J s (got_by r out) out)
    → Settles (record { limits = limits; epoch = epoch; journal = J; probes = n }) p r (record { position = Some (length J); outcome = out }) (record { limits = limits; epoch = epoch; journal = J ++ Settle p.who t (got_by r out) out ∷ []; probes = probes_after n r out })
settles_owed limits epoch n J p r t out is here may due =
    let old : State = record { limits = limits; epoch = epoch; journal = J; probes = n } in
    let new : State = record { limits = limits; epoch = epoch; journal = J ++ Settle p.who t (got_by r out) out ∷ []; probes = probes_after n r out } in
    let answer : Settled = record { position = Some (length J); outcome = out } in
    let owed : IsOwed old t p = owed_by old p t may is here in
    settles_at p.mark old p r answer new t is (eq-eqb p.epoch epoch here) (record { start = owed.start; unsettled = owed.unsettled; due = due owed.start owed.unsettled.started; position = refl; after = refl })
