use Rattle.std.proofs.Common.{rules, ◌≡◌, ℕ, ◌+◌, ◌<◌, List, [], ◌∷◌, ◌++◌, length, take, get_or, false, sym, ap, ◌∙◌, subst}
use Rattle.std.proofs.lemmas.List.{take_more}
use Rattle.book_index.specs.Holders.{SetsHolders}
use Rattle.book_index.proofs.Named.{names_push}
use Rattle.book_index.proofs.subgraph_holders.SubgraphHolders.remove_all.Goals as goal

pub loop-name-preserved : goal.loop-name-preserved
loop-name-preserved c =
    let names : List (List ℕ) = c.args.names.now in
    let i : ℕ = c.loop-name.name-index in
    let name : List ℕ = c.name-item.result in
    let here : get_or names i name ≡ name = search rules in
    let within : i < length names = search rules in
    let more : take (i + 1) names ≡ take i names ++ name ∷ [] = take_more names i name within ∙ ap (λ t. take i names ++ t ∷ []) here in
    subst (λ (ts : List (List ℕ)). SetsHolders c.args.self.now c.remove.new.self c.args.sub.now ts c.args.position false) (sym more)
    (names_push c.args.self.now c.loop-name.self c.remove.new.self c.args.sub.now name c.args.position false (take i names) c.loop-name.invariant c.remove.ensures)
