use Rattle.std.proofs.Common.{◌≡◌, ◌-◌}
use Rattle.token_read.specs.Parse.{many, many_in}
use Rattle.gql_schema.specs.Grammar.{is}
use Rattle.gql_schema.specs.Reading.{next_name}
use Rattle.gql_schema.specs.Reads.{passes}
use Rattle.gql_schema.specs.Reads.{prefixed}
use Rattle.gql_schema.proofs.names.more_names.Given as goal

abbrev pub invariant-loop : goal.invariant-loop
invariant-loop l = prefixed l.found (many_in (is l.kind) (next_name l.kind (passes l.test)) (l.end - l.counter) l.left) ≡ prefixed l.fn.found (many (is l.kind) (next_name l.kind (passes l.test)) l.fn.left)
