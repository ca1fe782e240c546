use Rattle.std.proofs.Common.{◌∙◌, List, ℕ, refl, subst, codes}
use Rattle.std.specs.Prelude.{Ok, Err}
use Rattle.rehearsal.specs.Outside.{output}
use Rattle.case_file.specs.Cases.{IsCase, content}
use Rattle.workload.specs.Running.{good, bad}
use Rattle.workload.proofs.Finishing.{done, refused}
use Rattle.workload.proofs.command.run.Goals as goal

pub returns-in-Ok-summary-clause-finishes : goal.returns-in-Ok-summary-clause-finishes
returns-in-Ok-summary-clause-finishes g c =
    done c.args.steps c.in-Ok-summary.text (output (g.K.Sink.written c.args.sink.now) (g.K.Sink.faults c.args.sink.now)) (output (g.K.Sink.written c.put.new.sink) (g.K.Sink.faults c.put.new.sink)) c.put.result
    (good c.in-Ok.case (subst (λ (bytes : List ℕ). IsCase bytes (Ok (content c.in-Ok.case))) (c.as_bytes.ensures.value ∙ c.site_text.ensures) c.in-Ok.ensures.case) c.in-Ok-summary.ensures)
    (rw c.as_str.ensures at c.put.ensures.puts)

pub returns-in-Some-clause-finishes : goal.returns-in-Some-clause-finishes
returns-in-Some-clause-finishes g c =
    let f = c.in-Err.fault in
    refused c.args.steps (codes "case refused\n") (output (g.K.Sink.written c.args.sink.now) (g.K.Sink.faults c.args.sink.now)) (output (g.K.Sink.written c.put-in-Some.new.sink) (g.K.Sink.faults c.put-in-Some.new.sink)) c.put-in-Some.result
    (bad f c.in-Some.ensures.refused (subst (λ (bytes : List ℕ). IsCase bytes (Err f)) (c.as_bytes.ensures.value ∙ c.site_text.ensures) (c.in-Err.ensures.fault c.in-Some.ensures.refused)) refl)
    (rw c.in-Some.ensures.text at c.put-in-Some.ensures.puts)
