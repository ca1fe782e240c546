use Rattle.gql_schema.proofs.OneAnswer.{schema_no_fault}
use Rattle.gql_schema.proofs.laws.schema_has_no_fault.Goals as goal

pub returns : goal.returns
returns c = schema_no_fault
