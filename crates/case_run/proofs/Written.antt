-- What is written by a run is what `ask` writes.
use Rattle.std.proofs.Common.{◌≡◌, ◌≢◌, inl, inr, ℕ, List, Ok, Err, Option}
use Rattle.std.specs.Prelude.{codes}
use Rattle.flow_base.specs.Taking.{TakesWhole, TakesLong}
use Rattle.rehearsal.specs.Outside.{Output, Outside}
use Rattle.rehearsal.specs.Runs.{Extent}
use Rattle.case_file.specs.declared.content.Case.{Case}
use Rattle.case_file.specs.declared.fault.CaseFault.{CaseFault}
use Rattle.case_file.specs.declared.fault.CaseFault.TheVariants as fault
use Rattle.case_file.specs.Cases.{IsCase, content}
use Rattle.case_run.specs.declared.ending.Ending.{Ending}
use Rattle.case_run.specs.declared.ending.Ending.TheVariants as ending
use Rattle.case_run.specs.Texts.{refusal_text}
use Rattle.case_run.specs.Runs.{Runs, opening}
use Rattle.case_run.specs.Asking.{most, RefusesCase, MayWrite, too_long, bad, good, EndsWith, Asks}

ends_weaker : (T U : List ℕ → Extent → Type 0) (old new : Output) (e : Ending) → ((out : List ℕ) (x : Extent) → T out x → U out x) → EndsWith T old new e → EndsWith U old new e
ends_weaker T U old new ending.Finished h w = (w.0, h _ _ w.1, w.2)
ends_weaker T U old new ending.Refused h w = (w.0, h _ _ w.1, w.2)
ends_weaker T U old new ending.SinkFailed h w = (w.0, (w.1.0, w.1.1, h _ _ w.1.2, w.1.3))
ends_weaker T U old new ending.NoMemory h w = (w.0, h _ _ w.1, w.2)
ends_weaker T U old new ending.SourceFailed h w = absurd w

module _ (old new : Outside) (e : Ending) where
  asks : EndsWith (MayWrite old.input.left new.input.left) old.output new.output e → Asks old new e
  asks w = by_ending e w
    where
      by_ending : (e : Ending) → EndsWith (MayWrite old.input.left new.input.left) old.output new.output e → Asks old new e
      by_ending ending.Finished w = w
      by_ending ending.Refused w = w
      by_ending ending.SinkFailed w = w
      by_ending ending.NoMemory w = inr w
      by_ending ending.SourceFailed w = absurd w

  pub refused_size : (count : ℕ) → TakesLong old.input.left new.input.left most count → EndsWith (RefusesCase (codes "case refused size\n")) old.output new.output e → Asks old new e
  refused_size count taken w =
      asks (ends_weaker (RefusesCase (codes "case refused size\n")) (MayWrite old.input.left new.input.left) old.output new.output e (λ out x says. too_long count taken says) w)

  pub refused_case : (bytes : List ℕ) (f : CaseFault) → f ≢ fault.Memory → TakesWhole old.input.left new.input.left most bytes → IsCase bytes (Err f) → EndsWith (RefusesCase (refusal_text f)) old.output new.output e → Asks old new e
  refused_case bytes f is_fault taken is w =
      asks (ends_weaker (RefusesCase (refusal_text f)) (MayWrite old.input.left new.input.left) old.output new.output e (λ out x says. bad bytes f is_fault taken is says) w)

  pub asked : (bytes : List ℕ) (c : Case) → TakesWhole old.input.left new.input.left most bytes → IsCase bytes (Ok (content c)) → EndsWith (Runs c.site (opening c.site.config.limits c.replies) c.requests) old.output new.output e → Asks old new e
  asked bytes c taken is w =
      asks (ends_weaker (Runs c.site (opening c.site.config.limits c.replies) c.requests) (MayWrite old.input.left new.input.left) old.output new.output e (λ out x runs. good bytes c taken is runs) w)
