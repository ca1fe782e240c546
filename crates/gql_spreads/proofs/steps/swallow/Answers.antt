use Rattle.std.proofs.Common.{◌≡◌, ◌+◌, ◌-◌, ◌++◌, ◌∷◌, [], length, ap, ◌∙◌, sym, set, take, get_or, List, true, arith, vec_len}
use Rattle.gql_spreads.specs.declared.search.Group.{Group}
use Rattle.gql_spreads.specs.Search.{group_at}
use Rattle.gql_spreads.proofs.Kept.{length_one, set_last, front_of, last_at}
use Rattle.gql_spreads.proofs.steps.swallow.Goals as goal

pub returns-clause-groups : goal.returns-clause-groups
returns-clause-groups c = λ xs f g is.
    let left : c.pop.new.self.items ≡ xs ++ (f ∷ []) = c.pop.ensures.rest ∙ front_of c.args.search.now.groups.items (xs ++ (f ∷ [])) g (vec_len c.args.search.now.groups) is c.args.search.now.groups.ok.0 in
    let count : length c.pop.new.self.items ≡ length xs + 1 = ap length left ∙ length_one xs f in
    let many : c.len-last.result ≡ length c.pop.new.self.items = c.len-last.ensures ∙ c.pop.new.self.ok.0 in
    let place : c.len-last.result - 1 ≡ length xs = omega arith in
    let same : c.index-group.result.now ≡ f = c.index-group.ensures ∙ last_at c.pop.new.self.items xs f c.index-group.result.now c.len-last.result left many in
    ap (λ (q : List Group). set q (c.len-last.result - 1) (group_at c.index-group.result.now.node c.index-group.result.now.edge true)) left
    ∙ set_last xs f (group_at c.index-group.result.now.node c.index-group.result.now.edge true) (c.len-last.result - 1) place
    ∙ ap (λ (q : Group). xs ++ (group_at q.node q.edge true ∷ [])) same
