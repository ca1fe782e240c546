use Rattle.gql_schema.proofs.SchemasExact.{all_exact}
use Rattle.gql_schema.proofs.laws.reads_exactly.Goals as goal

pub returns : goal.returns
returns c = all_exact
