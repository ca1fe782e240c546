use Rattle.std.specs.Option.{option_copied}
use Rattle.cache_book.specs.Calls as call
use Rattle.cache_seam.specs.Meddling.{seen_meddled, steps_of}
use Rattle.cache_seam.proofs.Amid.{looks_amid, looks_amid_not, looks_calls, looks_calls_not, looks_ready}
use Rattle.cache_seam.proofs.meddled.MeddledCache.look.Goals as goal

pub invariant_of-self : goal.invariant_of-self
invariant_of-self c =
    let s = c.self.inside in
    let m = c.meddle_next in
    let later = steps_of s.later.items in
    let rest = steps_of m.new.later.items in
    let begun = rw (← c.self.view_is) at c.requires in
    looks_ready c.look.result (λ v. v.items) s.book m.new.book c.look.new.self s.pass s.pinned s.begun s.past.items m.new.past.items s.second m.new.pass later rest (option_copied c.args.id) c.args.asks.items c.args.now c.self.invariant m.ensures.meddles m.ensures.past m.ensures.later begun c.look.ensures.ok c.look.ensures.err

pub returns-clause-ok : goal.returns-clause-ok
returns-clause-ok c =
    let s = c.self.inside in
    let m = c.meddle_next in
    let later = steps_of s.later.items in
    let rest = steps_of m.new.later.items in
    let begun = rw (← c.self.view_is) at c.requires in
    rw (← c.self.view_is)
    (looks_calls c.look.result (λ v. v.items) (record { seen = seen_meddled s.book s.pinned s.begun s.past.items; pass = s.second; later = later }) (record { seen = seen_meddled c.look.new.self s.pinned s.begun m.new.past.items; pass = m.new.pass; later = rest }) (call.Look (record { who = 0; epoch = s.pinned }) (option_copied c.args.id) c.args.asks.items c.args.now) (looks_amid c.look.result (λ v. v.items) s.book m.new.book c.look.new.self s.pass s.pinned s.begun s.past.items m.new.past.items s.second m.new.pass later rest (option_copied c.args.id) c.args.asks.items c.args.now c.self.invariant m.ensures.meddles m.ensures.past m.ensures.later begun c.look.ensures.ok))

pub returns-clause-err : goal.returns-clause-err
returns-clause-err c =
    let s = c.self.inside in
    let m = c.meddle_next in
    let later = steps_of s.later.items in
    let rest = steps_of m.new.later.items in
    let begun = rw (← c.self.view_is) at c.requires in
    rw (← c.self.view_is)
    (looks_calls_not c.look.result (record { seen = seen_meddled s.book s.pinned s.begun s.past.items; pass = s.second; later = later }) (record { seen = seen_meddled c.look.new.self s.pinned s.begun m.new.past.items; pass = m.new.pass; later = rest }) (call.Look (record { who = 0; epoch = s.pinned }) (option_copied c.args.id) c.args.asks.items c.args.now) call.OutOfMemory (looks_amid_not c.look.result s.book m.new.book c.look.new.self s.pass s.pinned s.begun s.past.items m.new.past.items s.second m.new.pass later rest (option_copied c.args.id) c.args.asks.items c.args.now c.self.invariant m.ensures.meddles m.ensures.past m.ensures.later begun c.look.ensures.err))

pub returns-clause-meddled : goal.returns-clause-meddled
returns-clause-meddled c =
    let s = c.self.inside in
    let m = c.meddle_next in
    let later = steps_of s.later.items in
    let rest = steps_of m.new.later.items in
    let begun = rw (← c.self.view_is) at c.requires in
    rw (← c.self.view_is)
    (looks_amid c.look.result (λ v. v.items) s.book m.new.book c.look.new.self s.pass s.pinned s.begun s.past.items m.new.past.items s.second m.new.pass later rest (option_copied c.args.id) c.args.asks.items c.args.now c.self.invariant m.ensures.meddles m.ensures.past m.ensures.later begun c.look.ensures.ok)

pub returns-clause-meddled_err : goal.returns-clause-meddled_err
returns-clause-meddled_err c =
    let s = c.self.inside in
    let m = c.meddle_next in
    let later = steps_of s.later.items in
    let rest = steps_of m.new.later.items in
    let begun = rw (← c.self.view_is) at c.requires in
    rw (← c.self.view_is)
    (looks_amid_not c.look.result s.book m.new.book c.look.new.self s.pass s.pinned s.begun s.past.items m.new.past.items s.second m.new.pass later rest (option_copied c.args.id) c.args.asks.items c.args.now c.self.invariant m.ensures.meddles m.ensures.past m.ensures.later begun c.look.ensures.err)
