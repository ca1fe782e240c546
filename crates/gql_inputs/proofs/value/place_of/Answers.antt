use Rattle.std.proofs.Common.{sym, ◌∙◌}
use Rattle.gql_inputs.proofs.Members.{placed, unplaced}
use Rattle.gql_inputs.proofs.value.place_of.Goals as goal

pub returns-in-Some : goal.returns-in-Some
returns-in-Some c = placed c.args.name.now c.args.members.now c.in-Some.place.now (sym (c.requires c.args.name.now) ∙ sym c.in-Some.ensures.value)

pub returns-in-None : goal.returns-in-None
returns-in-None c = unplaced c.args.name.now c.args.members.now (sym (c.requires c.args.name.now) ∙ sym c.in-None.ensures.value)
