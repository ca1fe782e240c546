use Rattle.std.proofs.Common.{refl}
use Rattle.cache_book.specs.Calls as call
use Rattle.cache_seam.specs.Meddling.{steps_of}
use Rattle.cache_seam.proofs.Amid.{Acts, amid_call, amid_ready, voided_epoch}
use Rattle.cache_seam.proofs.meddled.MeddledCache.invalidate.Goals as goal

pub invariant_of-self : goal.invariant_of-self
invariant_of-self c =
    let s = c.self.inside in
    let m = c.meddle_next in
    let later = steps_of s.later.items in
    let rest = steps_of m.new.later.items in
    let acts : Acts s.book m.new.book c.invalidate-voided.new.self s.pass s.pinned c.invalidate-voided.result.epoch s.begun s.past.items m.new.past.items s.second m.new.pass later rest (call.Invalidate 0 c.args.notice) (call.Voided c.invalidate-voided.result) = record { ready = c.self.invariant; meddles = m.ensures.meddles; kept_is = m.ensures.past; rest_is = m.ensures.later; is_own = refl; may = tt; offers = tt; step = c.invalidate-voided.ensures.step; pin_is = voided_epoch m.new.book 0 c.args.notice c.invalidate-voided.result c.invalidate-voided.new.self c.invalidate-voided.ensures.step } in
    amid_ready s.book m.new.book c.invalidate-voided.new.self s.pass s.pinned c.invalidate-voided.result.epoch s.begun s.past.items m.new.past.items s.second m.new.pass later rest (call.Invalidate 0 c.args.notice) (call.Voided c.invalidate-voided.result) acts s.pass (λ begun. absurd (cc begun))

pub returns-clause-calls : goal.returns-clause-calls
returns-clause-calls c =
    let s = c.self.inside in
    let m = c.meddle_next in
    let later = steps_of s.later.items in
    let rest = steps_of m.new.later.items in
    let acts : Acts s.book m.new.book c.invalidate-voided.new.self s.pass s.pinned c.invalidate-voided.result.epoch s.begun s.past.items m.new.past.items s.second m.new.pass later rest (call.Invalidate 0 c.args.notice) (call.Voided c.invalidate-voided.result) = record { ready = c.self.invariant; meddles = m.ensures.meddles; kept_is = m.ensures.past; rest_is = m.ensures.later; is_own = refl; may = tt; offers = tt; step = c.invalidate-voided.ensures.step; pin_is = voided_epoch m.new.book 0 c.args.notice c.invalidate-voided.result c.invalidate-voided.new.self c.invalidate-voided.ensures.step } in
    rw (← c.self.view_is) (amid_call s.book m.new.book c.invalidate-voided.new.self s.pass s.pinned c.invalidate-voided.result.epoch s.begun s.past.items m.new.past.items s.second m.new.pass later rest (call.Invalidate 0 c.args.notice) (call.Voided c.invalidate-voided.result) acts).calls

pub returns-clause-meddled : goal.returns-clause-meddled
returns-clause-meddled c =
    let s = c.self.inside in
    let m = c.meddle_next in
    let later = steps_of s.later.items in
    let rest = steps_of m.new.later.items in
    let acts : Acts s.book m.new.book c.invalidate-voided.new.self s.pass s.pinned c.invalidate-voided.result.epoch s.begun s.past.items m.new.past.items s.second m.new.pass later rest (call.Invalidate 0 c.args.notice) (call.Voided c.invalidate-voided.result) = record { ready = c.self.invariant; meddles = m.ensures.meddles; kept_is = m.ensures.past; rest_is = m.ensures.later; is_own = refl; may = tt; offers = tt; step = c.invalidate-voided.ensures.step; pin_is = voided_epoch m.new.book 0 c.args.notice c.invalidate-voided.result c.invalidate-voided.new.self c.invalidate-voided.ensures.step } in
    rw (← c.self.view_is) (amid_call s.book m.new.book c.invalidate-voided.new.self s.pass s.pinned c.invalidate-voided.result.epoch s.begun s.past.items m.new.past.items s.second m.new.pass later rest (call.Invalidate 0 c.args.notice) (call.Voided c.invalidate-voided.result) acts)
