use Rattle.std.proofs.Common.{refl}
use Rattle.turn_lock.specs.Members.{MemberState}
use Rattle.cache_model.specs.State.{State}
use Rattle.shared_book.specs.Sharing.{Shared}
use Rattle.cache_book.specs.Calls as call
use Rattle.cache_book.proofs.Stepping.{step_by}
use Rattle.shared_book.proofs.HandleTurns.{round_of, may_leave, handle_calls, handle_stays}
use Rattle.shared_book.proofs.handle.HandleCache.tally.Goals as goal

pub invariant_of-self : goal.invariant_of-self
invariant_of-self g c =
    let m : MemberState Shared = c.self.inside.member in
    let x : State = c.book.inside.book in
    let round = round_of m c.enter.new.self c.leave.new.self x c.book.inside.last c.book.inside.members c.enter.result x c.number-number.result c.book.view_is c.enter.ensures.without c.enter.ensures.turn c.number-number.ensures c.leave.ensures in
    handle_stays m c.leave.new.self c.self.inside.pinned c.self.inside.pinned c.self.inside.begun c.self.inside.begun x call.Tally (call.Tallied c.tally-tally.result) x c.self.inside.pass c.self.inside.pass c.self.invariant
    (record { round = round; coherent = c.self.invariant.coherent; lawful = c.book.invariant.0; own = tt; may = tt; offers = tt; step = c.tally-tally.ensures; pin = refl; leave = refl })
    c.self.invariant.pass_is

pub returns : goal.returns
returns g c =
    let m : MemberState Shared = c.self.inside.member in
    let x : State = c.book.inside.book in
    let round = round_of m c.enter.new.self c.leave.new.self x c.book.inside.last c.book.inside.members c.enter.result x c.number-number.result c.book.view_is c.enter.ensures.without c.enter.ensures.turn c.number-number.ensures c.leave.ensures in
    rw (← c.self.view_is)
    (handle_calls m c.leave.new.self c.self.inside.pinned c.self.inside.pinned c.self.inside.begun c.self.inside.begun x call.Tally (call.Tallied c.tally-tally.result) x
    (record { round = round; coherent = c.self.invariant.coherent; lawful = c.book.invariant.0; own = tt; may = tt; offers = tt; step = c.tally-tally.ensures; pin = refl; leave = refl }))

pub leave-requires : goal.leave-requires
leave-requires g c =
    let m : MemberState Shared = c.self.inside.member in
    let x : State = c.book.inside.book in
    may_leave m c.enter.new.self x c.book.inside.last c.book.inside.members c.enter.result x c.number-number.result c.book.view_is c.enter.ensures.turn c.number-number.ensures (step_by x call.Tally (call.Tallied c.tally-tally.result) x m.number tt c.tally-tally.ensures)
