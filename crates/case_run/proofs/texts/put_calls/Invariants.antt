use Rattle.std.proofs.Common.{◌≡◌, ◌++◌, drop}
use Rattle.std.specs.Prelude.{string_bytes}
use Rattle.line_base.specs.Told.{entries_told}
use Rattle.case_run.specs.Texts.{sent_text}
use Rattle.case_run.proofs.texts.put_calls.Given as goal

abbrev pub invariant-loop-told : goal.invariant-loop-told
invariant-loop-told l = string_bytes l.text ++ sent_text (entries_told (drop l.told-index l.calls)) ≡ string_bytes l.fn.text ++ sent_text (entries_told l.calls)
