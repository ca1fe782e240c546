use Rattle.std.proofs.Common.{refl}
use Rattle.turn_lock.specs.Members.{MemberState}
use Rattle.cache_model.specs.State.{State}
use Rattle.shared_book.specs.Sharing.{Shared}
use Rattle.cache_book.specs.Calls as call
use Rattle.cache_book.proofs.Stepping.{step_by}
use Rattle.cache_seam.proofs.LoneCalls.{lawful_after}
use Rattle.shared_book.proofs.HandleTurns.{numbered_in, round_of, may_leave, found_may, handle_calls, handle_stays}
use Rattle.shared_book.proofs.handle.HandleCache.settle.Goals as goal

pub settle-settled-requires-clause-may : goal.settle-settled-requires-clause-may
settle-settled-requires-clause-may g c =
    let m : MemberState Shared = c.self.inside.member in
    let x : State = c.book.inside.book in
    let own = rw (← c.self.view_is) at c.requires.own in
    let begun = rw (← c.self.view_is) at c.requires.begun in
    found_may m x c.book.inside.last c.book.inside.members c.enter.result c.args.fill.permit c.book.view_is c.enter.ensures.without c.book.invariant.0 own begun (rw (← c.self.view_is) at c.requires.may)

pub invariant_of-leave : goal.invariant_of-leave
invariant_of-leave g c =
    let m : MemberState Shared = c.self.inside.member in
    let x : State = c.book.inside.book in
    let y : State = c.settle-settled.new.self in
    let own = rw (← c.self.view_is) at c.requires.own in
    let begun = rw (← c.self.view_is) at c.requires.begun in
    let may = found_may m x c.book.inside.last c.book.inside.members c.enter.result c.args.fill.permit c.book.view_is c.enter.ensures.without c.book.invariant.0 own begun (rw (← c.self.view_is) at c.requires.may) in (
      lawful_after x (call.Settle c.args.fill.permit c.args.fill.report) (call.Closed c.settle-settled.result) y c.book.invariant.0 (may, c.requires.range) c.requires.object c.settle-settled.ensures.step,
      record { some = c.book.invariant.1.some; below = numbered_in m x c.book.inside.last c.book.inside.members c.enter.result c.number-number.result c.book.view_is c.enter.ensures.without c.number-number.ensures c.self.invariant.numbered },
    )

pub leave-requires : goal.leave-requires
leave-requires g c =
    let m : MemberState Shared = c.self.inside.member in
    let x : State = c.book.inside.book in
    let y : State = c.settle-settled.new.self in
    let own = rw (← c.self.view_is) at c.requires.own in
    may_leave m c.enter.new.self x c.book.inside.last c.book.inside.members c.enter.result y c.number-number.result c.book.view_is c.enter.ensures.turn c.number-number.ensures (step_by x (call.Settle c.args.fill.permit c.args.fill.report) (call.Closed c.settle-settled.result) y m.number own c.settle-settled.ensures.step)

pub invariant_of-self : goal.invariant_of-self
invariant_of-self g c =
    let m : MemberState Shared = c.self.inside.member in
    let x : State = c.book.inside.book in
    let y : State = c.settle-settled.new.self in
    let round = round_of m c.enter.new.self c.leave.new.self x c.book.inside.last c.book.inside.members c.enter.result y c.number-number.result c.book.view_is c.enter.ensures.without c.enter.ensures.turn c.number-number.ensures c.leave.ensures in
    let own = rw (← c.self.view_is) at c.requires.own in
    let begun = rw (← c.self.view_is) at c.requires.begun in
    let may = found_may m x c.book.inside.last c.book.inside.members c.enter.result c.args.fill.permit c.book.view_is c.enter.ensures.without c.book.invariant.0 own begun (rw (← c.self.view_is) at c.requires.may) in
    handle_stays m c.leave.new.self c.self.inside.pinned c.self.inside.pinned c.self.inside.begun c.self.inside.begun x (call.Settle c.args.fill.permit c.args.fill.report) (call.Closed c.settle-settled.result) y c.self.inside.pass c.self.inside.pass c.self.invariant
    (record { round = round; coherent = c.self.invariant.coherent; lawful = c.book.invariant.0; own = own; may = (may, c.requires.range); offers = c.requires.object; step = c.settle-settled.ensures.step; pin = refl; leave = refl })
    c.self.invariant.pass_is

pub returns : goal.returns
returns g c =
    let m : MemberState Shared = c.self.inside.member in
    let x : State = c.book.inside.book in
    let y : State = c.settle-settled.new.self in
    let round = round_of m c.enter.new.self c.leave.new.self x c.book.inside.last c.book.inside.members c.enter.result y c.number-number.result c.book.view_is c.enter.ensures.without c.enter.ensures.turn c.number-number.ensures c.leave.ensures in
    let own = rw (← c.self.view_is) at c.requires.own in
    let begun = rw (← c.self.view_is) at c.requires.begun in
    let may = found_may m x c.book.inside.last c.book.inside.members c.enter.result c.args.fill.permit c.book.view_is c.enter.ensures.without c.book.invariant.0 own begun (rw (← c.self.view_is) at c.requires.may) in
    rw (← c.self.view_is)
    (handle_calls m c.leave.new.self c.self.inside.pinned c.self.inside.pinned c.self.inside.begun c.self.inside.begun x (call.Settle c.args.fill.permit c.args.fill.report) (call.Closed c.settle-settled.result) y
    (record { round = round; coherent = c.self.invariant.coherent; lawful = c.book.invariant.0; own = own; may = (may, c.requires.range); offers = c.requires.object; step = c.settle-settled.ensures.step; pin = refl; leave = refl }))
