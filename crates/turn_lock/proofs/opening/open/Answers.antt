use Rattle.std.proofs.Common.{IfOk, Result, Ok, Err, sym, subst}
use Rattle.std.specs.Arc.{arc_value}
use Rattle.atomic_table.specs.Seated.{TableId}
use Rattle.turn_lock.specs.Members.{AreOutside}
use Rattle.turn_lock.proofs.Membership.{new_are_outside}
use Rattle.turn_lock.proofs.opening.open.Goals as goal

IfOk-map : {A E : Type 0} {P Q : A → Type 0} (r : Result A E) → IfOk r P → ((x : A) → P x → Q x) → IfOk r Q
IfOk-map (Ok v) h f = f v h
IfOk-map (Err e) h f = tt

pub returns-clause-outside : goal.returns-clause-outside
returns-clause-outside g c = let z : TableId = c.in-Ok.first.table_id in
    IfOk-map c.seat_all.result c.seat_all.ensures (λ v e. (z, subst (AreOutside z) (sym e) (new_are_outside z (arc_value c.in_ok-lock.lock).shared.key.value c.args.members)))
