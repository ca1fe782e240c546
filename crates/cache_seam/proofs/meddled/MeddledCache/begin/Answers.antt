use Rattle.std.proofs.Common.{◌≡◌, refl, ap, sym, ◌∙◌}
use Rattle.cache_book.specs.Permits.{Pinned}
use Rattle.cache_book.specs.Calls as call
use Rattle.cache_seam.specs.Meddling.{steps_of}
use Rattle.cache_seam.proofs.Amid.{Acts, amid_call, amid_ready}
use Rattle.cache_seam.proofs.meddled.MeddledCache.begin.Goals as goal

pub invariant_of-self : goal.invariant_of-self
invariant_of-self c =
    let s = c.self.inside in
    let m = c.meddle_next in
    let later = steps_of s.later.items in
    let rest = steps_of m.new.later.items in
    let step = c.begin-self-inside.ensures.step in
    let told : ◌≡◌ {A = Pinned} (record { who = 0; epoch = c.epoch-self-inside.result }) c.begin-self-inside.result = ap (λ (e : _). record { who = 0; epoch = e }) (c.epoch-self-inside.ensures ∙ ap (λ (p : Pinned). p.epoch) step.1) ∙ sym step.1 in
    let acts : Acts s.book m.new.book c.begin-self-inside.new.self s.pass s.pinned c.epoch-self-inside.result s.begun s.past.items m.new.past.items s.second m.new.pass later rest (call.Begin 0) (call.Begun (record { who = 0; epoch = c.epoch-self-inside.result })) = record { ready = c.self.invariant; meddles = m.ensures.meddles; kept_is = m.ensures.past; rest_is = m.ensures.later; is_own = refl; may = tt; offers = tt; step = (step.0, told ∙ step.1); pin_is = c.epoch-self-inside.ensures ∙ ap (λ (p : Pinned). p.epoch) step.1 } in
    amid_ready s.book m.new.book c.begin-self-inside.new.self s.pass s.pinned c.epoch-self-inside.result s.begun s.past.items m.new.past.items s.second m.new.pass later rest (call.Begin 0) (call.Begun (record { who = 0; epoch = c.epoch-self-inside.result })) acts c.begin-self-inside.result (λ _. sym told)

pub returns-clause-calls : goal.returns-clause-calls
returns-clause-calls c =
    let s = c.self.inside in
    let m = c.meddle_next in
    let later = steps_of s.later.items in
    let rest = steps_of m.new.later.items in
    let step = c.begin-self-inside.ensures.step in
    let told : ◌≡◌ {A = Pinned} (record { who = 0; epoch = c.epoch-self-inside.result }) c.begin-self-inside.result = ap (λ (e : _). record { who = 0; epoch = e }) (c.epoch-self-inside.ensures ∙ ap (λ (p : Pinned). p.epoch) step.1) ∙ sym step.1 in
    let acts : Acts s.book m.new.book c.begin-self-inside.new.self s.pass s.pinned c.epoch-self-inside.result s.begun s.past.items m.new.past.items s.second m.new.pass later rest (call.Begin 0) (call.Begun (record { who = 0; epoch = c.epoch-self-inside.result })) = record { ready = c.self.invariant; meddles = m.ensures.meddles; kept_is = m.ensures.past; rest_is = m.ensures.later; is_own = refl; may = tt; offers = tt; step = (step.0, told ∙ step.1); pin_is = c.epoch-self-inside.ensures ∙ ap (λ (p : Pinned). p.epoch) step.1 } in
    rw (← c.self.view_is) (amid_call s.book m.new.book c.begin-self-inside.new.self s.pass s.pinned c.epoch-self-inside.result s.begun s.past.items m.new.past.items s.second m.new.pass later rest (call.Begin 0) (call.Begun (record { who = 0; epoch = c.epoch-self-inside.result })) acts).calls

pub returns-clause-meddled : goal.returns-clause-meddled
returns-clause-meddled c =
    let s = c.self.inside in
    let m = c.meddle_next in
    let later = steps_of s.later.items in
    let rest = steps_of m.new.later.items in
    let step = c.begin-self-inside.ensures.step in
    let told : ◌≡◌ {A = Pinned} (record { who = 0; epoch = c.epoch-self-inside.result }) c.begin-self-inside.result = ap (λ (e : _). record { who = 0; epoch = e }) (c.epoch-self-inside.ensures ∙ ap (λ (p : Pinned). p.epoch) step.1) ∙ sym step.1 in
    let acts : Acts s.book m.new.book c.begin-self-inside.new.self s.pass s.pinned c.epoch-self-inside.result s.begun s.past.items m.new.past.items s.second m.new.pass later rest (call.Begin 0) (call.Begun (record { who = 0; epoch = c.epoch-self-inside.result })) = record { ready = c.self.invariant; meddles = m.ensures.meddles; kept_is = m.ensures.past; rest_is = m.ensures.later; is_own = refl; may = tt; offers = tt; step = (step.0, told ∙ step.1); pin_is = c.epoch-self-inside.ensures ∙ ap (λ (p : Pinned). p.epoch) step.1 } in
    rw (← c.self.view_is) (amid_call s.book m.new.book c.begin-self-inside.new.self s.pass s.pinned c.epoch-self-inside.result s.begun s.past.items m.new.past.items s.second m.new.pass later rest (call.Begin 0) (call.Begun (record { who = 0; epoch = c.epoch-self-inside.result })) acts)
