use Rattle.std.proofs.Common.{◌≡◌, ◌-◌}
use Rattle.token_read.specs.Parse.{many, many_in}
use Rattle.gql_schema.specs.Reading.{begins_value, value}
use Rattle.gql_schema.specs.Reads.{prefixed}
use Rattle.gql_schema.proofs.fields.more_values.Given as goal

abbrev pub invariant-loop : goal.invariant-loop
invariant-loop l = prefixed l.found (many_in begins_value value (l.end - l.counter) l.left) ≡ prefixed l.fn.found (many begins_value value l.fn.left)
