use Rattle.std.proofs.Common.{◌≡◌, ◌+◌, ◌-◌, ◌*◌}
use Rattle.token_read.specs.Parse.{many, many_in}
use Rattle.gql_tokens.specs.declared.kinds.Kind.TheVariants as k
use Rattle.gql_terms.specs.Grammar.{strict, is}
use Rattle.gql_parser.specs.Reading.{variable_definition}
use Rattle.gql_parser.specs.Reads.{prefixed}
use Rattle.gql_parser.proofs.variables.more_variables.Given as goal

abbrev pub invariant-loop : goal.invariant-loop
invariant-loop l = prefixed l.found (many_in (is k.Dollar) (variable_definition strict) (l.end - l.counter) l.tokens) ≡ prefixed l.fn.found (many (is k.Dollar) (variable_definition strict) l.fn.tokens)
