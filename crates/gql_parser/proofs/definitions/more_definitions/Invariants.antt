use Rattle.std.proofs.Common.{◌≡◌, ◌-◌, List}
use Rattle.token_read.specs.Parse.{many, many_in}
use Rattle.gql_terms.specs.Grammar.{strict, Definition}
use Rattle.gql_parser.specs.Reading.{begins_definition, definition}
use Rattle.gql_parser.specs.Reads.{prefixed, withs}
use Rattle.gql_parser.proofs.definitions.more_definitions.Given as goal

abbrev pub invariant-loop : goal.invariant-loop
invariant-loop l = (xs : List Definition) × (l.document ≡ withs l.fn.document xs)
    × (prefixed xs (many_in begins_definition (definition strict) (l.end - l.counter) l.tokens) ≡ many begins_definition (definition strict) l.fn.tokens)
