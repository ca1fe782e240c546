use Rattle.gql_schema.proofs.OneAnswer.{fault_once}
use Rattle.gql_schema.proofs.laws.fault_is_one.Goals as goal

pub returns : goal.returns
returns c = fault_once
