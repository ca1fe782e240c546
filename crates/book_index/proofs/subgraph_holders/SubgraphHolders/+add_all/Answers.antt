use Rattle.std.proofs.Common.{rules, ◌≡◌, ◌∷◌, List, ℕ, true, false, sym, subst}
use Rattle.book_index.specs.Holders.{SetsHolders}
use Rattle.book_index.proofs.Named.{names_cons, named_undone, was_absent}
use Rattle.book_index.proofs.subgraph_holders.SubgraphHolders.+add_all.Goals as goal

pub returns-in_default-add_all-clause-err : goal.returns-in_default-add_all-clause-err
returns-in_default-add_all-clause-err t c =
    let new : c.in_ok-new.new ≡ true = search rules in
    named_undone c.args.self.now c.add.new.self c.add_all.new.self c.args.sub.now c.in-Some.name.now c.args.position true c.remove.new.self false
    (was_absent c.in_ok-new.new _ c.in_ok-new.ensures.new new) c.in_ok-new.ensures.put c.in_default-add_all.ensures.err c.remove.ensures

pub returns-clause-put : goal.returns-clause-put
returns-clause-put t c =
    let list : c.args.names.now ≡ c.in-Some.name.now ∷ c.in-Some.rest.now = search rules in
    subst (λ (ts : List (List ℕ)). SetsHolders c.args.self.now c.add_all.new.self c.args.sub.now ts c.args.position true) (sym list)
    (names_cons c.args.self.now c.add.new.self c.add_all.new.self c.args.sub.now c.in-Some.name.now c.args.position true c.in-Some.rest.now c.in_ok-new.ensures.put c.in-Ok.ensures.put)
