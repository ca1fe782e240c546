use Rattle.std.proofs.Common.{ap}
use Rattle.std.specs.Option.{option_copied}
use Rattle.turn_lock.specs.Members.{MemberState}
use Rattle.cache_model.specs.State.{State}
use Rattle.shared_book.specs.Sharing.{Shared}
use Rattle.cache_book.specs.Permits.{Pinned}
use Rattle.cache_book.specs.Calls as call
use Rattle.cache_book.proofs.Stepping.{step_by}
use Rattle.cache_seam.specs.Seen.{pass_of}
use Rattle.cache_seam.proofs.LoneCalls.{lawful_after}
use Rattle.shared_book.specs.Handles.{held, seen_of}
use Rattle.shared_book.proofs.HandleTurns.{numbered_in, round_of, may_leave, looked, looks, looks_ok, looks_err, handle_stays}
use Rattle.shared_book.proofs.handle.HandleCache.look.Goals as goal

pub invariant_of-leave : goal.invariant_of-leave
invariant_of-leave g c =
    let m : MemberState Shared = c.self.inside.member in
    let x : State = c.book.inside.book in
    let y : State = c.look-answers.new.self in
    let saw = looked c.look-answers.result (λ v. v.items) x y c.self.inside.pass (option_copied c.args.id) c.args.asks.items c.args.now c.look-answers.ensures.ok c.look-answers.ensures.err in (
      lawful_after x (call.Look c.self.inside.pass (option_copied c.args.id) c.args.asks.items c.args.now) saw.0 y c.book.invariant.0 tt tt saw.1,
      record { some = c.book.invariant.1.some; below = numbered_in m x c.book.inside.last c.book.inside.members c.enter.result c.number-number.result c.book.view_is c.enter.ensures.without c.number-number.ensures c.self.invariant.numbered },
    )

pub leave-requires : goal.leave-requires
leave-requires g c =
    let m : MemberState Shared = c.self.inside.member in
    let x : State = c.book.inside.book in
    let y : State = c.look-answers.new.self in
    let saw = looked c.look-answers.result (λ v. v.items) x y c.self.inside.pass (option_copied c.args.id) c.args.asks.items c.args.now c.look-answers.ensures.ok c.look-answers.ensures.err in
    let begun = rw (← c.self.view_is) at c.requires in
    may_leave m c.enter.new.self x c.book.inside.last c.book.inside.members c.enter.result y c.number-number.result c.book.view_is c.enter.ensures.turn c.number-number.ensures (step_by x (call.Look c.self.inside.pass (option_copied c.args.id) c.args.asks.items c.args.now) saw.0 y m.number (ap (λ (p : Pinned). p.who) (c.self.invariant.pass_is begun)) saw.1)

pub invariant_of-self : goal.invariant_of-self
invariant_of-self g c =
    let m : MemberState Shared = c.self.inside.member in
    let x : State = c.book.inside.book in
    let y : State = c.look-answers.new.self in
    let round = round_of m c.enter.new.self c.leave.new.self x c.book.inside.last c.book.inside.members c.enter.result y c.number-number.result c.book.view_is c.enter.ensures.without c.enter.ensures.turn c.number-number.ensures c.leave.ensures in
    let saw = looked c.look-answers.result (λ v. v.items) x y c.self.inside.pass (option_copied c.args.id) c.args.asks.items c.args.now c.look-answers.ensures.ok c.look-answers.ensures.err in
    let begun = rw (← c.self.view_is) at c.requires in
    let made = looks m c.leave.new.self c.self.inside.pass c.self.inside.pinned c.self.inside.begun x y (option_copied c.args.id) c.args.asks.items c.args.now saw.0 c.self.invariant round c.book.invariant.0 begun saw.1 in
    handle_stays m c.leave.new.self c.self.inside.pinned c.self.inside.pinned c.self.inside.begun c.self.inside.begun x (call.Look (pass_of (seen_of (held m c.self.inside.pinned c.self.inside.begun))) (option_copied c.args.id) c.args.asks.items c.args.now) saw.0 y c.self.inside.pass c.self.inside.pass c.self.invariant made c.self.invariant.pass_is

pub returns-clause-ok : goal.returns-clause-ok
returns-clause-ok g c =
    let m : MemberState Shared = c.self.inside.member in
    let x : State = c.book.inside.book in
    let y : State = c.look-answers.new.self in
    let round = round_of m c.enter.new.self c.leave.new.self x c.book.inside.last c.book.inside.members c.enter.result y c.number-number.result c.book.view_is c.enter.ensures.without c.enter.ensures.turn c.number-number.ensures c.leave.ensures in
    let begun = rw (← c.self.view_is) at c.requires in
    rw (← c.self.view_is)
    (looks_ok c.look-answers.result (λ v. v.items) m c.leave.new.self c.self.inside.pass c.self.inside.pinned c.self.inside.begun x y (option_copied c.args.id) c.args.asks.items c.args.now c.self.invariant round c.book.invariant.0 begun c.look-answers.ensures.ok)

pub returns-clause-err : goal.returns-clause-err
returns-clause-err g c =
    let m : MemberState Shared = c.self.inside.member in
    let x : State = c.book.inside.book in
    let y : State = c.look-answers.new.self in
    let round = round_of m c.enter.new.self c.leave.new.self x c.book.inside.last c.book.inside.members c.enter.result y c.number-number.result c.book.view_is c.enter.ensures.without c.enter.ensures.turn c.number-number.ensures c.leave.ensures in
    let begun = rw (← c.self.view_is) at c.requires in
    rw (← c.self.view_is)
    (looks_err c.look-answers.result m c.leave.new.self c.self.inside.pass c.self.inside.pinned c.self.inside.begun x y (option_copied c.args.id) c.args.asks.items c.args.now c.self.invariant round c.book.invariant.0 begun c.look-answers.ensures.err)
