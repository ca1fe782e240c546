-- What is written by a run is what a rehearsal writes.
use Rattle.std.proofs.Common.{◌⊎◌, inl, inr, ℕ, List}
use Rattle.std.specs.Prelude.{IsUtf8}
use Rattle.cache_terms.specs.declared.events.Limits.{Limits}
use Rattle.flow_base.specs.Taking.{TakesWhole, TakesLong}
use Rattle.rehearsal.specs.declared.stage.Ending.{Ending}
use Rattle.rehearsal.specs.declared.stage.Ending.TheVariants as ending
use Rattle.script_lines.specs.Script.{lines}
use Rattle.rehearsal.specs.Outside.{Output, Outside}
use Rattle.rehearsal.specs.Scene.{opening}
use Rattle.rehearsal.specs.Runs.{Extent, Runs}
use Rattle.rehearsal.specs.Rehearsing.{most, IsRefusedScript, MayWrite, EndsWith, Rehearses}

ends_weaker : (T U : List ℕ → Extent → Type 0) (old new : Output) (e : Ending) → ((out : List ℕ) (x : Extent) → T out x → U out x) → EndsWith T old new e → EndsWith U old new e
ends_weaker T U old new ending.Finished h w = (w.0, h _ _ w.1, w.2)
ends_weaker T U old new ending.Refused h w = (w.0, h _ _ w.1, w.2)
ends_weaker T U old new ending.SinkFailed h w = (w.0, (w.1.0, w.1.1, h _ _ w.1.2, w.1.3))
ends_weaker T U old new ending.NoMemory h w = (w.0, h _ _ w.1, w.2)
ends_weaker T U old new ending.SourceFailed h w = absurd w

rehearses : (limits : Limits) (old new : Outside) (e : Ending) → EndsWith (MayWrite limits old.input.left new.input.left) old.output new.output e → Rehearses limits old new e
rehearses limits old new ending.Finished w = w
rehearses limits old new ending.Refused w = w
rehearses limits old new ending.SinkFailed w = w
rehearses limits old new ending.NoMemory w = inr w
rehearses limits old new ending.SourceFailed w = absurd w

pub played : (limits : Limits) (old new : Outside) (e : Ending) (script : List ℕ)
    → TakesWhole old.input.left new.input.left most script → IsUtf8 script → EndsWith (Runs 1 (opening limits) (lines script)) old.output new.output e → Rehearses limits old new e
played limits old new e script taken utf8 w =
    rehearses limits old new e (ends_weaker (Runs 1 (opening limits) (lines script)) (MayWrite limits old.input.left new.input.left) old.output new.output e (λ out x runs. inl (record { script = script; taken = taken; utf8 = utf8; runs = runs })) w)

pub refused : (limits : Limits) (old new : Outside) (e : Ending)
    → ((count : ℕ) × TakesLong old.input.left new.input.left most count) ⊎ ((bytes : List ℕ) × TakesWhole old.input.left new.input.left most bytes × (IsUtf8 bytes → ⊥)) → EndsWith IsRefusedScript old.output new.output e → Rehearses limits old new e
refused limits old new e bad w =
    rehearses limits old new e (ends_weaker IsRefusedScript (MayWrite limits old.input.left new.input.left) old.output new.output e (λ out x says. inr (record { bad = bad; says = says })) w)
