use Rattle.std.proofs.Common.{◌≡◌, ◌+◌, ◌-◌, length, ap, ◌∙◌, set, List, true, arith}
use Rattle.gql_spreads.specs.declared.search.Group.{Group}
use Rattle.gql_spreads.specs.Search.{group_at}
use Rattle.gql_spreads.proofs.Kept.{length_one, set_last}
use Rattle.gql_spreads.proofs.steps.circle.Goals as goal

pub returns-clause-groups : goal.returns-clause-groups
returns-clause-groups c = λ xs g is.
    let count : length c.args.search.now.groups.items ≡ length xs + 1 = ap length is ∙ length_one xs g in
    ap (λ (q : List Group). set q (c.len-last.result - 1) (group_at c.args.group.node c.args.group.edge true)) is
    ∙ set_last xs g (group_at c.args.group.node c.args.group.edge true) (c.len-last.result - 1) (omega (arith, c.len-last.ensures, c.args.search.now.groups.ok.0))
