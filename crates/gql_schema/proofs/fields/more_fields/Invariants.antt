use Rattle.std.proofs.Common.{◌≡◌, ◌-◌}
use Rattle.token_read.specs.Parse.{many, many_in}
use Rattle.gql_schema.specs.Reading.{begins_item, field}
use Rattle.gql_schema.specs.Reads.{prefixed}
use Rattle.gql_schema.proofs.fields.more_fields.Given as goal

abbrev pub invariant-loop : goal.invariant-loop
invariant-loop l = prefixed l.found (many_in begins_item field (l.end - l.counter) l.left) ≡ prefixed l.fn.found (many begins_item field l.fn.left)
