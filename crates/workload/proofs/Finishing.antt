-- What is written of a text, and how it finishes.
use Rattle.std.proofs.Common.{inl, inr, ℕ, List, sym, subst}
use Rattle.rehearsal.specs.Outside.{Output}
use Rattle.rehearsal.specs.Runs.{Whole, Refused}
use Rattle.workload.specs.declared.finish.Finish.{Finish}
use Rattle.workload.specs.declared.finish.Finish.TheVariants as finish
use Rattle.workload.specs.Running.{MayBeWritten, FinishesBy}
use Rattle.workload.specs.Between.{WritesAs}

module _ (steps : ℕ) (text : List ℕ) (old new : Output) (g : Finish) where
  pub done : MayBeWritten steps text Whole → WritesAs text finish.Done old new g → FinishesBy steps old new g
  done may (inl (same, put)) = subst (FinishesBy steps old new) (sym same) (text, may, put)
  done may (inr (same, rose, cut)) = subst (FinishesBy steps old new) (sym same) (rose, (text, Whole, may, cut))

  pub refused : MayBeWritten steps text Refused → WritesAs text finish.Refused old new g → FinishesBy steps old new g
  refused may (inl (same, put)) = subst (FinishesBy steps old new) (sym same) (text, may, put)
  refused may (inr (same, rose, cut)) = subst (FinishesBy steps old new) (sym same) (rose, (text, Refused, may, cut))
