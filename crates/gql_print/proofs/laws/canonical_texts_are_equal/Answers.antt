use Rattle.gql_print.proofs.Reading.{equal_texts}
use Rattle.gql_print.proofs.laws.canonical_texts_are_equal.Goals as goal

pub returns : goal.returns
returns c = equal_texts c.args.a.now c.args.b.now
