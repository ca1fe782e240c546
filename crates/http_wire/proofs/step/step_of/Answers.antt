use Rattle.http_wire.proofs.StepFacts.{bad_line}
use Rattle.http_wire.proofs.Unfinished.{line_unfinished}
use Rattle.http_wire.proofs.step.step_of.Goals as goal

pub returns-in-Err : goal.returns-in-Err
returns-in-Err c = bad_line c.args.bytes.now c.in-Err.ensures.invalid

pub returns-in-Ok-Partial : goal.returns-in-Ok-Partial
returns-in-Ok-Partial c =
    let none = rw c.in-Ok-Partial.field-0-is at c.in-Ok-Partial.ensures.partial in
    let may = rw c.in-Ok-Partial.field-0-is at c.in-Ok-Partial.ensures.unfinished in
    line_unfinished c.args.bytes.now none may
