use Rattle.std.proofs.Common.{◌∙◌, sym, ap}
use Rattle.std.specs.Option.{option_copied}
use Rattle.gql_shape.proofs.Indexed.{known-at, known-past}
use Rattle.gql_shape.proofs.known.stretch_known.Goals as goal

pub returns-in-Some : goal.returns-in-Some
returns-in-Some c =
    c.copied.ensures ∙ c.get.ensures.value ∙ known-at c.args.known.now c.args.group c.args.object.now c.in-Some.stretches.now (sym (ap option_copied c.in-Some.is) ∙ c.at.ensures)

pub returns-in-None : goal.returns-in-None
returns-in-None c = known-past c.args.known.now c.args.group c.args.object.now (sym (ap option_copied c.in-None.is) ∙ c.at.ensures)
