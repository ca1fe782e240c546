use Rattle.std.proofs.Common.{◌≡◌, ◌+◌, ◌-◌, ◌*◌}
use Rattle.token_read.specs.Parse.{many, many_in}
use Rattle.gql_terms.specs.Grammar.{strict}
use Rattle.gql_parser.specs.Reading.{begins_selection, selection, set}
use Rattle.gql_parser.specs.Reads.{prefixed}
use Rattle.gql_parser.proofs.selections.+set.Given as goal

abbrev pub invariant-more_selections-loop : goal.invariant-more_selections-loop
invariant-more_selections-loop l = prefixed l.found (many_in (begins_selection) (selection strict (set strict l.room)) (l.end - l.counter) l.tokens) ≡ prefixed l.fn.found (many (begins_selection) (selection strict (set strict l.room)) l.fn.tokens)

abbrev pub decreases-set : goal.decreases-set
decreases-set l = 9 * l.room + 1

abbrev pub decreases-braced : goal.decreases-braced
decreases-braced l = 9 * l.room + 9

abbrev pub decreases-more_selections : goal.decreases-more_selections
decreases-more_selections l = 9 * l.room + 8

abbrev pub decreases-selection : goal.decreases-selection
decreases-selection l = 9 * l.room + 7

abbrev pub decreases-after_dots : goal.decreases-after_dots
decreases-after_dots l = 9 * l.room + 6

abbrev pub decreases-field : goal.decreases-field
decreases-field l = 9 * l.room + 5

abbrev pub decreases-may_set : goal.decreases-may_set
decreases-may_set l = 9 * l.room + 2

abbrev pub decreases-inline : goal.decreases-inline
decreases-inline l = 9 * l.room + 2
