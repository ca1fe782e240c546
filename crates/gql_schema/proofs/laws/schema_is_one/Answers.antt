use Rattle.gql_schema.proofs.OneAnswer.{schema_once}
use Rattle.gql_schema.proofs.laws.schema_is_one.Goals as goal

pub returns : goal.returns
returns c = schema_once
