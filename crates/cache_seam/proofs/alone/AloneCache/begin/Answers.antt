use Rattle.std.proofs.Common.{ap, ◌∙◌, refl}
use Rattle.cache_book.specs.Permits.{Pinned}
use Rattle.cache_book.specs.Calls as call
use Rattle.cache_seam.proofs.LoneCalls.{lone_calls}
use Rattle.cache_seam.proofs.alone.AloneCache.begin.Goals as goal

pub returns : goal.returns
returns c =
    let step = c.begin-self-inside.ensures.step in
    let told = ap (λ (e : _). record { who = 0; epoch = e }) (c.epoch.ensures ∙ ap (λ (p : Pinned). p.epoch) step.1) in
    rw (← c.self.view_is)
    (lone_calls c.self.inside.book c.self.inside.begun (call.Begin 0) (call.Begun (record { who = 0; epoch = c.epoch.result })) c.begin-self-inside.new.self c.self.invariant.0 refl tt tt (step.0, told))
