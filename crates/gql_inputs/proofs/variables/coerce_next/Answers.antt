use Rattle.std.proofs.Common.{Some, None}
use Rattle.gql_inputs.specs.Variables.{one_more}
use Rattle.gql_inputs.proofs.variables.coerce_next.Goals as goal

pub returns-in_ok-push-in-Ok-Some-clause-value : goal.returns-in_ok-push-in-Ok-Some-clause-value
returns-in_ok-push-in-Ok-Some-clause-value c = rw (c.in_ok-push-in-Ok-Some.ensures.ok, c.in_ok-copy-in-Ok-Some.ensures)
    (one_more {w = Some c.in-Ok-Some.value} (rw c.in-Ok-Some.field-0-is at c.in-Ok-Some.ensures.value))

pub returns-in-Ok-None-clause-value : goal.returns-in-Ok-None-clause-value
returns-in-Ok-None-clause-value c = one_more {w = None} (rw c.in-Ok-None.field-0-is at c.in-Ok-None.ensures.value)
