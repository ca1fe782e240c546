use Rattle.std.proofs.Common.{ℕ, refl, sym, subst}
use Rattle.cache_model.specs.Story.{Without}
use Rattle.cache_book.specs.Settling.{MaySettle}
use Rattle.cache_book.proofs.Stepping.{permit_without}
use Rattle.cache_book.specs.Calls as call
use Rattle.cache_seam.specs.Meddling.{steps_of}
use Rattle.cache_seam.proofs.Amid.{Acts, amid_call, amid_ready, found_without, found_lawful}
use Rattle.cache_seam.proofs.meddled.MeddledCache.settle.Goals as goal

pub settle-requires-clause-may : goal.settle-requires-clause-may
settle-requires-clause-may c =
    let s = c.self.inside in
    let m = c.meddle_next in
    let later = steps_of s.later.items in
    let rest = steps_of m.new.later.items in
    let own = rw (← c.self.view_is) at c.requires.own in
    let begun = rw (← c.self.view_is) at c.requires.begun in
    let may = rw (← c.self.view_is) at c.requires.may in
    let without = subst (λ (k : ℕ). Without s.book m.new.book k) (sym own) (found_without s.book m.new.book s.pass s.pinned s.begun s.past.items s.second m.new.pass later c.self.invariant m.ensures.meddles) in
    let lawful = found_lawful s.book m.new.book s.pass s.pinned s.begun s.past.items s.second m.new.pass later c.self.invariant m.ensures.meddles in
    let there : MaySettle m.new.book c.args.fill.permit = permit_without s.book m.new.book c.args.fill.permit lawful.legal without begun may in
    there

pub invariant_of-self : goal.invariant_of-self
invariant_of-self c =
    let s = c.self.inside in
    let m = c.meddle_next in
    let later = steps_of s.later.items in
    let rest = steps_of m.new.later.items in
    let own = rw (← c.self.view_is) at c.requires.own in
    let begun = rw (← c.self.view_is) at c.requires.begun in
    let may = rw (← c.self.view_is) at c.requires.may in
    let without = subst (λ (k : ℕ). Without s.book m.new.book k) (sym own) (found_without s.book m.new.book s.pass s.pinned s.begun s.past.items s.second m.new.pass later c.self.invariant m.ensures.meddles) in
    let lawful = found_lawful s.book m.new.book s.pass s.pinned s.begun s.past.items s.second m.new.pass later c.self.invariant m.ensures.meddles in
    let there : MaySettle m.new.book c.args.fill.permit = permit_without s.book m.new.book c.args.fill.permit lawful.legal without begun may in
    let acts : Acts s.book m.new.book c.settle.new.self s.pass s.pinned s.pinned s.begun s.past.items m.new.past.items s.second m.new.pass later rest (call.Settle c.args.fill.permit c.args.fill.report) (call.Closed c.settle.result) = record { ready = c.self.invariant; meddles = m.ensures.meddles; kept_is = m.ensures.past; rest_is = m.ensures.later; is_own = own; may = (there, c.requires.range); offers = c.requires.object; step = c.settle.ensures.step; pin_is = refl } in
    amid_ready s.book m.new.book c.settle.new.self s.pass s.pinned s.pinned s.begun s.past.items m.new.past.items s.second m.new.pass later rest (call.Settle c.args.fill.permit c.args.fill.report) (call.Closed c.settle.result) acts s.pass c.self.invariant.own

pub returns-clause-calls : goal.returns-clause-calls
returns-clause-calls c =
    let s = c.self.inside in
    let m = c.meddle_next in
    let later = steps_of s.later.items in
    let rest = steps_of m.new.later.items in
    let own = rw (← c.self.view_is) at c.requires.own in
    let begun = rw (← c.self.view_is) at c.requires.begun in
    let may = rw (← c.self.view_is) at c.requires.may in
    let without = subst (λ (k : ℕ). Without s.book m.new.book k) (sym own) (found_without s.book m.new.book s.pass s.pinned s.begun s.past.items s.second m.new.pass later c.self.invariant m.ensures.meddles) in
    let lawful = found_lawful s.book m.new.book s.pass s.pinned s.begun s.past.items s.second m.new.pass later c.self.invariant m.ensures.meddles in
    let there : MaySettle m.new.book c.args.fill.permit = permit_without s.book m.new.book c.args.fill.permit lawful.legal without begun may in
    let acts : Acts s.book m.new.book c.settle.new.self s.pass s.pinned s.pinned s.begun s.past.items m.new.past.items s.second m.new.pass later rest (call.Settle c.args.fill.permit c.args.fill.report) (call.Closed c.settle.result) = record { ready = c.self.invariant; meddles = m.ensures.meddles; kept_is = m.ensures.past; rest_is = m.ensures.later; is_own = own; may = (there, c.requires.range); offers = c.requires.object; step = c.settle.ensures.step; pin_is = refl } in
    rw (← c.self.view_is) (amid_call s.book m.new.book c.settle.new.self s.pass s.pinned s.pinned s.begun s.past.items m.new.past.items s.second m.new.pass later rest (call.Settle c.args.fill.permit c.args.fill.report) (call.Closed c.settle.result) acts).calls

pub returns-clause-meddled : goal.returns-clause-meddled
returns-clause-meddled c =
    let s = c.self.inside in
    let m = c.meddle_next in
    let later = steps_of s.later.items in
    let rest = steps_of m.new.later.items in
    let own = rw (← c.self.view_is) at c.requires.own in
    let begun = rw (← c.self.view_is) at c.requires.begun in
    let may = rw (← c.self.view_is) at c.requires.may in
    let without = subst (λ (k : ℕ). Without s.book m.new.book k) (sym own) (found_without s.book m.new.book s.pass s.pinned s.begun s.past.items s.second m.new.pass later c.self.invariant m.ensures.meddles) in
    let lawful = found_lawful s.book m.new.book s.pass s.pinned s.begun s.past.items s.second m.new.pass later c.self.invariant m.ensures.meddles in
    let there : MaySettle m.new.book c.args.fill.permit = permit_without s.book m.new.book c.args.fill.permit lawful.legal without begun may in
    let acts : Acts s.book m.new.book c.settle.new.self s.pass s.pinned s.pinned s.begun s.past.items m.new.past.items s.second m.new.pass later rest (call.Settle c.args.fill.permit c.args.fill.report) (call.Closed c.settle.result) = record { ready = c.self.invariant; meddles = m.ensures.meddles; kept_is = m.ensures.past; rest_is = m.ensures.later; is_own = own; may = (there, c.requires.range); offers = c.requires.object; step = c.settle.ensures.step; pin_is = refl } in
    rw (← c.self.view_is) (amid_call s.book m.new.book c.settle.new.self s.pass s.pinned s.pinned s.begun s.past.items m.new.past.items s.second m.new.pass later rest (call.Settle c.args.fill.permit c.args.fill.report) (call.Closed c.settle.result) acts)
