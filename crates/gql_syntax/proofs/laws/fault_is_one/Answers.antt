use Rattle.gql_syntax.proofs.OneFault.{fault_once}
use Rattle.gql_syntax.proofs.laws.fault_is_one.Goals as goal

pub returns : goal.returns
returns c = fault_once
