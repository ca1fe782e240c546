use Rattle.std.proofs.Common.{◌∙◌, List, ℕ, subst}
use Rattle.std.specs.Io.KnownBytes.{Appends}
use Rattle.flow_base.specs.Causes.{AppendsFront}
use Rattle.case_run.proofs.play.play_one.Goals as goal

pub returns-in-Ok-put_all-clause-plays : goal.returns-in-Ok-put_all-clause-plays
returns-in-Ok-put_all-clause-plays g c =
    let told = c.in-Ok.ensures.told in
    let bytes = c.as_bytes.ensures.value ∙ c.as_str.ensures ∙ told.2 in
    (told.0, told.1, subst (λ (l : List ℕ). Appends (g.K.Sink.written c.args.sink.now) (g.K.Sink.written c.put_all.new.sink) l) bytes c.in-Ok-put_all.ensures.ok)

pub returns-clause-plays : goal.returns-clause-plays
returns-clause-plays g c =
    let told = c.in-Ok.ensures.told in
    let bytes = c.as_bytes.ensures.value ∙ c.as_str.ensures ∙ told.2 in
    (c.in-Err-put_all.ensures.cause.failed, (told.0, told.1, subst (λ (l : List ℕ). AppendsFront (g.K.Sink.written c.args.sink.now) (g.K.Sink.written c.put_all.new.sink) l) bytes c.in-Err-put_all.ensures.cut))
