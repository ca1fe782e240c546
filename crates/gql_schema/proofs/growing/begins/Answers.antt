use Rattle.std.proofs.Common.{◌∙◌}
use Rattle.gql_lexer.proofs.NameWords.{starts_as}
use Rattle.gql_schema.proofs.growing.begins.Goals as goal

pub returns : goal.returns
returns c = c.starts_with.ensures.value ∙ starts_as c.args.front.now c.args.word.now
