use Rattle.gql_shape.proofs.Kept.{elements-based}
use Rattle.gql_shape.proofs.collections.Collections.element_type.Goals as goal

pub returns-clause-based : goal.returns-clause-based
returns-clause-based c = elements-based c.args.self.now.scope.schema c.args.of.now c.args.base c.list_type.result c.list_type.ensures c.requires
