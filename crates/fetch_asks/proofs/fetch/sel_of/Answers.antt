use Rattle.std.proofs.Common.{rules, ◌≡◌, ◌++◌, ◌∙◌}
use Rattle.std.specs.Prelude.{codes, string_bytes}
use Rattle.std.proofs.lemmas.Result.{IfOk-weaker}
use Rattle.fetch_asks.specs.Asks as spec
use Rattle.fetch_asks.proofs.Bodies.{sel-text}
use Rattle.fetch_asks.proofs.fetch.sel_of.Goals as goal

pub returns : goal.returns
returns c = λ variables is.
    let made : string_bytes c.push_str-3.new.self ≡ ((c.args.fetch.now.sel ++ codes "\n{") ++ c.args.members.now) ++ codes "}" = search rules in
    let whole : string_bytes c.push_str-3.new.self ≡ spec.sel_of c.args.fetch.now variables = made ∙ sel-text c.args.fetch.now variables c.args.members.now is in
    IfOk-weaker c.from_string.result _ _ (λ t same. same ∙ whole) c.from_string.ensures
