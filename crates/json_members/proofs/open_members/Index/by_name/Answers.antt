use Rattle.std.proofs.lemmas.Result.{IfOk-weaker}
use Rattle.json_members.proofs.Names.{name_put}
use Rattle.json_members.proofs.open_members.Index.by_name.Goals as goal

pub returns : goal.returns
returns c =
    IfOk-weaker c.of_names.result _ _ (λ index covers. covers _ (name_put c.in_ok-names.names c.in_ok-names-2.names c.args.name.now c.args.members.now c.in_ok-names.ensures c.in_ok-names-2.ensures))
    c.of_names.ensures
