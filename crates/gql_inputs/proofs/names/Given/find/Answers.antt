use Rattle.std.proofs.Common.{◌∙◌}
use Rattle.gql_inputs.proofs.names.Given.find.Goals as goal

pub returns : goal.returns
returns c = c.copied.ensures ∙ c.get.ensures.value ∙ c.args.self.now.indexed c.args.name.now
