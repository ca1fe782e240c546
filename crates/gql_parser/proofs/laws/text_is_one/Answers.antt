use Rattle.gql_parser.proofs.Explained.{text_once}
use Rattle.gql_parser.proofs.laws.text_is_one.Goals as goal

pub returns : goal.returns
returns c = text_once
