use Rattle.std.proofs.Common.{◌+◌, ◌*◌}
use Rattle.gql_parser.proofs.types.+type_ref.Given as goal

abbrev pub decreases-type_ref : goal.decreases-type_ref
decreases-type_ref l = 3 * l.room + 2

abbrev pub decreases-unmarked : goal.decreases-unmarked
decreases-unmarked l = 3 * l.room + 1

abbrev pub decreases-list_type : goal.decreases-list_type
decreases-list_type l = 3 * l.room + 3
