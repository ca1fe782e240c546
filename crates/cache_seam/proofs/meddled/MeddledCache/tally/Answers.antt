use Rattle.std.proofs.Common.{refl}
use Rattle.cache_book.specs.Calls as call
use Rattle.cache_seam.specs.Meddling.{steps_of}
use Rattle.cache_seam.proofs.Amid.{Acts, amid_call, amid_ready}
use Rattle.cache_seam.proofs.meddled.MeddledCache.tally.Goals as goal

pub invariant_of-self : goal.invariant_of-self
invariant_of-self c =
    let s = c.self.inside in
    let m = c.meddle_next in
    let later = steps_of s.later.items in
    let rest = steps_of m.new.later.items in
    let acts : Acts s.book m.new.book m.new.book s.pass s.pinned s.pinned s.begun s.past.items m.new.past.items s.second m.new.pass later rest call.Tally (call.Tallied c.tally.result) = record { ready = c.self.invariant; meddles = m.ensures.meddles; kept_is = m.ensures.past; rest_is = m.ensures.later; is_own = tt; may = tt; offers = tt; step = c.tally.ensures; pin_is = refl } in
    amid_ready s.book m.new.book m.new.book s.pass s.pinned s.pinned s.begun s.past.items m.new.past.items s.second m.new.pass later rest call.Tally (call.Tallied c.tally.result) acts s.pass c.self.invariant.own

pub returns-clause-calls : goal.returns-clause-calls
returns-clause-calls c =
    let s = c.self.inside in
    let m = c.meddle_next in
    let later = steps_of s.later.items in
    let rest = steps_of m.new.later.items in
    let acts : Acts s.book m.new.book m.new.book s.pass s.pinned s.pinned s.begun s.past.items m.new.past.items s.second m.new.pass later rest call.Tally (call.Tallied c.tally.result) = record { ready = c.self.invariant; meddles = m.ensures.meddles; kept_is = m.ensures.past; rest_is = m.ensures.later; is_own = tt; may = tt; offers = tt; step = c.tally.ensures; pin_is = refl } in
    rw (← c.self.view_is) (amid_call s.book m.new.book m.new.book s.pass s.pinned s.pinned s.begun s.past.items m.new.past.items s.second m.new.pass later rest call.Tally (call.Tallied c.tally.result) acts).calls

pub returns-clause-meddled : goal.returns-clause-meddled
returns-clause-meddled c =
    let s = c.self.inside in
    let m = c.meddle_next in
    let later = steps_of s.later.items in
    let rest = steps_of m.new.later.items in
    let acts : Acts s.book m.new.book m.new.book s.pass s.pinned s.pinned s.begun s.past.items m.new.past.items s.second m.new.pass later rest call.Tally (call.Tallied c.tally.result) = record { ready = c.self.invariant; meddles = m.ensures.meddles; kept_is = m.ensures.past; rest_is = m.ensures.later; is_own = tt; may = tt; offers = tt; step = c.tally.ensures; pin_is = refl } in
    rw (← c.self.view_is) (amid_call s.book m.new.book m.new.book s.pass s.pinned s.pinned s.begun s.past.items m.new.past.items s.second m.new.pass later rest call.Tally (call.Tallied c.tally.result) acts)
