use Rattle.gql_shape.specs.Keys.{read_in}
use Rattle.gql_shape.proofs.Keys.{objects_have_keys}
use Rattle.gql_shape.proofs.laws.objects_have_the_keys_selected.Goals as goal

pub returns : goal.returns
returns c = objects_have_keys (read_in c.args.schema.now c.args.document.now c.args.variables.now)
