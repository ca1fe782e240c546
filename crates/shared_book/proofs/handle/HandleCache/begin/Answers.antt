use Rattle.std.proofs.Common.{true}
use Rattle.turn_lock.specs.Members.{MemberState}
use Rattle.cache_model.specs.State.{State}
use Rattle.shared_book.specs.Sharing.{Shared}
use Rattle.cache_book.specs.Permits.{Pinned}
use Rattle.cache_book.specs.Calls as call
use Rattle.cache_book.proofs.Stepping.{step_by}
use Rattle.cache_seam.proofs.LoneCalls.{lawful_after}
use Rattle.shared_book.proofs.HandleTurns.{numbered_in, may_leave, round_of, begins, handle_calls, handle_stays}
use Rattle.shared_book.proofs.handle.HandleCache.begin.Goals as goal

pub invariant_of-leave : goal.invariant_of-leave
invariant_of-leave g c =
    let m : MemberState Shared = c.self.inside.member in
    let x : State = c.book.inside.book in
    let y : State = c.begin-pass.new.self in (
      lawful_after x (call.Begin c.number-number.result) (call.Begun c.begin-pass.result) y c.book.invariant.0 tt tt c.begin-pass.ensures.step,
      record { some = c.book.invariant.1.some; below = numbered_in m x c.book.inside.last c.book.inside.members c.enter.result c.number-number.result c.book.view_is c.enter.ensures.without c.number-number.ensures c.self.invariant.numbered },
    )

pub leave-requires : goal.leave-requires
leave-requires g c =
    let m : MemberState Shared = c.self.inside.member in
    let x : State = c.book.inside.book in
    let y : State = c.begin-pass.new.self in
    may_leave m c.enter.new.self x c.book.inside.last c.book.inside.members c.enter.result y c.number-number.result c.book.view_is c.enter.ensures.turn c.number-number.ensures (step_by x (call.Begin c.number-number.result) (call.Begun c.begin-pass.result) y m.number c.number-number.ensures c.begin-pass.ensures.step)

pub invariant_of-self : goal.invariant_of-self
invariant_of-self g c =
    let m : MemberState Shared = c.self.inside.member in
    let x : State = c.book.inside.book in
    let y : State = c.begin-pass.new.self in
    let pass : Pinned = c.begin-pass.result in
    let round = round_of m c.enter.new.self c.leave.new.self x c.book.inside.last c.book.inside.members c.enter.result y c.number-number.result c.book.view_is c.enter.ensures.without c.enter.ensures.turn c.number-number.ensures c.leave.ensures in
    let begun = begins m c.leave.new.self c.self.inside.pass c.self.inside.pinned c.self.inside.begun x y c.number-number.result pass c.epoch-self-inside.result c.self.invariant round c.book.invariant.0 c.number-number.ensures c.begin-pass.ensures.step c.epoch-self-inside.ensures in
    handle_stays m c.leave.new.self c.self.inside.pinned c.epoch-self-inside.result c.self.inside.begun true x (call.Begin m.number) (call.Begun (record { who = m.number; epoch = c.epoch-self-inside.result })) y c.self.inside.pass pass c.self.invariant begun.0 (λ _. begun.1)

pub returns : goal.returns
returns g c =
    let m : MemberState Shared = c.self.inside.member in
    let x : State = c.book.inside.book in
    let y : State = c.begin-pass.new.self in
    let pass : Pinned = c.begin-pass.result in
    let round = round_of m c.enter.new.self c.leave.new.self x c.book.inside.last c.book.inside.members c.enter.result y c.number-number.result c.book.view_is c.enter.ensures.without c.enter.ensures.turn c.number-number.ensures c.leave.ensures in
    let begun = begins m c.leave.new.self c.self.inside.pass c.self.inside.pinned c.self.inside.begun x y c.number-number.result pass c.epoch-self-inside.result c.self.invariant round c.book.invariant.0 c.number-number.ensures c.begin-pass.ensures.step c.epoch-self-inside.ensures in
    rw (← c.self.view_is)
    (handle_calls m c.leave.new.self c.self.inside.pinned c.epoch-self-inside.result c.self.inside.begun true x (call.Begin m.number) (call.Begun (record { who = m.number; epoch = c.epoch-self-inside.result })) y begun.0)
