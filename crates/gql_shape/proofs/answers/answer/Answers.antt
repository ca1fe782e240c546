use Rattle.gql_shape.proofs.Indexed.{whole-ruled}
use Rattle.gql_shape.proofs.answers.answer.Goals as goal

pub complete_fields-requires-clause-ruled : goal.complete_fields-requires-clause-ruled
complete_fields-requires-clause-ruled c = rw (c.whole-whole.ensures, c.in_ok-collected.ensures) (whole-ruled c.args.scope c.in_ok-root.root c.into_groups.result)
