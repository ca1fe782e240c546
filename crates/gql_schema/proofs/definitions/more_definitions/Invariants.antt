use Rattle.std.proofs.Common.{◌≡◌, ◌-◌}
use Rattle.gql_schema.specs.Chains.{chain_in}
use Rattle.gql_schema.specs.Grammar.{rooted_by}
use Rattle.gql_schema.specs.Reading.{begins_definition, definition, definitions}
use Rattle.gql_schema.specs.Reads.{prefixed}
use Rattle.gql_schema.proofs.definitions.more_definitions.Given as goal

abbrev pub invariant-loop : goal.invariant-loop
invariant-loop l = prefixed l.found (chain_in rooted_by begins_definition definition (l.end - l.counter) l.rooted l.left) ≡ prefixed l.fn.found (definitions l.fn.rooted l.fn.left)
