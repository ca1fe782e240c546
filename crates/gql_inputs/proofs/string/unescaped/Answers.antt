use Rattle.std.proofs.Common.{◌≡◌, length, ◌∙◌, rules}
use Rattle.std.specs.Prelude.{string_bytes}
use Rattle.std.proofs.lemmas.Result.{IfOk-weaker}
use Rattle.gql_inputs.specs.Strings as spec
use Rattle.gql_inputs.proofs.Strings.{done}
use Rattle.gql_inputs.proofs.string.unescaped.Goals as goal

pub returns : goal.returns
returns c =
    let none : length c.loop-rest.rest.now ≡ 0 = search rules in
    let made : string_bytes c.loop-rest.text ≡ spec.unescaped c.args.source.now =
    done (string_bytes c.loop-rest.text) c.loop-rest.rest.now (spec.unescaped c.args.source.now) c.loop-rest.invariant.1 none in
    IfOk-weaker c.from_string.result _ _ (λ t same. same ∙ made) c.from_string.ensures
