use Rattle.std.proofs.Common.{false}
use Rattle.turn_lock.specs.Members.{MemberState}
use Rattle.cache_model.specs.State.{State}
use Rattle.shared_book.specs.Sharing.{Shared}
use Rattle.cache_book.specs.Calls as call
use Rattle.cache_book.proofs.Stepping.{step_by}
use Rattle.cache_seam.proofs.LoneCalls.{lawful_after}
use Rattle.shared_book.proofs.HandleTurns.{numbered_in, round_of, may_leave, voids, handle_calls, handle_stays}
use Rattle.shared_book.proofs.handle.HandleCache.invalidate.Goals as goal

pub invariant_of-leave : goal.invariant_of-leave
invariant_of-leave g c =
    let m : MemberState Shared = c.self.inside.member in
    let x : State = c.book.inside.book in
    let y : State = c.invalidate-voided.new.self in (
      lawful_after x (call.Invalidate c.number-number.result c.args.notice) (call.Voided c.invalidate-voided.result) y c.book.invariant.0 tt tt c.invalidate-voided.ensures.step,
      record { some = c.book.invariant.1.some; below = numbered_in m x c.book.inside.last c.book.inside.members c.enter.result c.number-number.result c.book.view_is c.enter.ensures.without c.number-number.ensures c.self.invariant.numbered },
    )

pub leave-requires : goal.leave-requires
leave-requires g c =
    let m : MemberState Shared = c.self.inside.member in
    let x : State = c.book.inside.book in
    let y : State = c.invalidate-voided.new.self in
    may_leave m c.enter.new.self x c.book.inside.last c.book.inside.members c.enter.result y c.number-number.result c.book.view_is c.enter.ensures.turn c.number-number.ensures (step_by x (call.Invalidate c.number-number.result c.args.notice) (call.Voided c.invalidate-voided.result) y m.number c.number-number.ensures c.invalidate-voided.ensures.step)

pub invariant_of-self : goal.invariant_of-self
invariant_of-self g c =
    let m : MemberState Shared = c.self.inside.member in
    let x : State = c.book.inside.book in
    let y : State = c.invalidate-voided.new.self in
    let round = round_of m c.enter.new.self c.leave.new.self x c.book.inside.last c.book.inside.members c.enter.result y c.number-number.result c.book.view_is c.enter.ensures.without c.enter.ensures.turn c.number-number.ensures c.leave.ensures in
    handle_stays m c.leave.new.self c.self.inside.pinned c.invalidate-voided.result.epoch c.self.inside.begun false x (call.Invalidate m.number c.args.notice) (call.Voided c.invalidate-voided.result) y c.self.inside.pass c.self.inside.pass c.self.invariant
    (voids m c.leave.new.self c.self.inside.pass c.self.inside.pinned c.self.inside.begun x y c.number-number.result c.args.notice c.invalidate-voided.result c.self.invariant round c.book.invariant.0 c.number-number.ensures c.invalidate-voided.ensures.step)
    (λ not. absurd (cc not))

pub returns : goal.returns
returns g c =
    let m : MemberState Shared = c.self.inside.member in
    let x : State = c.book.inside.book in
    let y : State = c.invalidate-voided.new.self in
    let round = round_of m c.enter.new.self c.leave.new.self x c.book.inside.last c.book.inside.members c.enter.result y c.number-number.result c.book.view_is c.enter.ensures.without c.enter.ensures.turn c.number-number.ensures c.leave.ensures in
    rw (← c.self.view_is)
    (handle_calls m c.leave.new.self c.self.inside.pinned c.invalidate-voided.result.epoch c.self.inside.begun false x (call.Invalidate m.number c.args.notice) (call.Voided c.invalidate-voided.result) y
    (voids m c.leave.new.self c.self.inside.pass c.self.inside.pinned c.self.inside.begun x y c.number-number.result c.args.notice c.invalidate-voided.result c.self.invariant round c.book.invariant.0 c.number-number.ensures c.invalidate-voided.ensures.step))
