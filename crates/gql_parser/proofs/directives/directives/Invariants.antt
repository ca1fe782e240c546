use Rattle.std.proofs.Common.{◌≡◌, ◌-◌}
use Rattle.token_read.specs.Parse.{many, many_in}
use Rattle.gql_tokens.specs.declared.kinds.Kind.TheVariants as k
use Rattle.gql_terms.specs.Grammar.{strict, is}
use Rattle.gql_parser.specs.Reading.{directive}
use Rattle.gql_parser.specs.Reads.{prefixed}
use Rattle.gql_parser.proofs.directives.directives.Given as goal

abbrev pub invariant-loop : goal.invariant-loop
invariant-loop l = prefixed l.found (many_in (is k.At) (directive strict) (l.end - l.counter) l.tokens) ≡ many (is k.At) (directive strict) l.fn.tokens
