use Rattle.std.proofs.Common.{◌≡◌, ◌+◌, ◌-◌, ◌*◌}
use Rattle.token_read.specs.Parse.{many, many_in}
use Rattle.gql_tokens.specs.KindTests.{is_name}
use Rattle.gql_parser.specs.Reading.{begins_value, value, pair}
use Rattle.gql_parser.specs.Reads.{prefixed}
use Rattle.gql_parser.proofs.values.+value.Given as goal

abbrev pub decreases-value : goal.decreases-value
decreases-value l = 4 * l.room + 1

abbrev pub decreases-list_of : goal.decreases-list_of
decreases-list_of l = 4 * l.room + 4

abbrev pub decreases-object_of : goal.decreases-object_of
decreases-object_of l = 4 * l.room + 4

abbrev pub decreases-values : goal.decreases-values
decreases-values l = 4 * l.room + 3

abbrev pub decreases-pairs : goal.decreases-pairs
decreases-pairs l = 4 * l.room + 3

abbrev pub decreases-pair : goal.decreases-pair
decreases-pair l = 4 * l.room + 2

abbrev pub invariant-values-loop : goal.invariant-values-loop
invariant-values-loop l = prefixed l.found (many_in (begins_value l.constant) (value l.constant l.room) (l.end - l.counter) l.tokens) ≡ many (begins_value l.constant) (value l.constant l.room) l.fn.tokens

abbrev pub invariant-pairs-loop : goal.invariant-pairs-loop
invariant-pairs-loop l = prefixed l.found (many_in is_name (pair (value l.constant l.room)) (l.end - l.counter) l.tokens) ≡ prefixed l.fn.found (many is_name (pair (value l.constant l.room)) l.fn.tokens)
