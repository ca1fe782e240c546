use Rattle.std.proofs.Common.{◌≡◌, sym, ap, ◌∙◌, arith}
use Rattle.gql_inputs.specs.Noted.{value_at}
use Rattle.gql_inputs.proofs.Noted.{Found, found, absent}
use Rattle.gql_inputs.proofs.names.Given.get.Goals as goal

pub value-requires : goal.value-requires
value-requires c =
    let there : Found 0 c.args.name.now c.args.self.now.members.now c.in-Some.place = found 0 c.args.name.now c.args.self.now.members.now c.in-Some.place (sym c.find.ensures ∙ c.in-Some.is) in
    omega arith

pub returns-in-Some : goal.returns-in-Some
returns-in-Some c =
    let there : Found 0 c.args.name.now c.args.self.now.members.now c.in-Some.place = found 0 c.args.name.now c.args.self.now.members.now c.in-Some.place (sym c.find.ensures ∙ c.in-Some.is) in
    let same : c.in-Some.place ≡ there.past = omega arith in
    c.value.ensures ∙ ap (value_at c.args.self.now.members.now) same ∙ sym there.is

pub returns-in-None : goal.returns-in-None
returns-in-None c = sym (absent 0 c.args.name.now c.args.self.now.members.now (sym c.find.ensures ∙ c.in-None.is))
