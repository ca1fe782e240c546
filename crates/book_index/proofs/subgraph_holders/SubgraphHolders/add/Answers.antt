use Rattle.std.proofs.Common.{rules, ◌≡◌, None, Some, IsSome, refl, subst, sym, ap, ◌∙◌}
use Rattle.std.specs.Prelude.{nat_eq}
use Rattle.std.specs.List.{list_any}
use Rattle.std.specs.BTreeMap as tree
use Rattle.book_index.specs.Positions.{text_cmp}
use Rattle.book_index.proofs.Named.{in_holders, tree_updates_from, sets_subgraph, this_at, others_at, same_at}
use Rattle.book_index.proofs.subgraph_holders.SubgraphHolders.add.Goals as goal

pub returns-in_default-add-clause-err : goal.returns-in_default-add-clause-err
returns-in_default-add-clause-err c sub name p =
    same_at in_holders (sets_subgraph c.args.self.now.subgraphs (c.get_mut.follows.lender c.add.new.self) c.args.sub.now (Some c.add.new.self) ((c.get_mut.follows.holds c.add.new.self).3 (subst IsSome c.in-Some.ensures.value refl)))
    (λ a. c.in_default-add.ensures.err a.0 a.1 ∙ ap (λ o. in_holders o a) c.in-Some.ensures.value) sub (name, p)

pub returns-in-Some-clause-put : goal.returns-in-Some-clause-put
returns-in-Some-clause-put c =
    let set = sets_subgraph c.args.self.now.subgraphs (c.get_mut.follows.lender c.add.new.self) c.args.sub.now (Some c.add.new.self) ((c.get_mut.follows.holds c.add.new.self).3 (subst IsSome c.in-Some.ensures.value refl)) in
    record {
      this = this_at in_holders set (c.args.name.now, c.args.position) ∙ c.in-Ok.ensures.put.this;
      others = λ s n p apart. others_at in_holders set (λ a. (a.0 ≡ c.args.name.now) × (a.1 ≡ c.args.position)) (λ a not_it. c.in-Ok.ensures.put.others a.0 a.1 not_it ∙ ap (λ o. in_holders o a) c.in-Some.ensures.value) s (n, p) (λ h. apart (h.0, h.1.0, h.1.1));
    }

pub returns-clause-put : goal.returns-clause-put
returns-clause-put c =
    let none : tree.get text_cmp c.args.self.now.subgraphs c.args.sub.now ≡ None = search rules in
    let updates = tree_updates_from c.get_mut.follows.lender-at-none c.args.self.now.subgraphs c.insert.new.self c.in_ok-copy.copy c.args.sub.now (Some c.add-2.new.self) c.get_mut.follows.holds-at-none c.in_ok-copy.ensures c.in-Ok-insert.ensures.updates in
    let set = sets_subgraph c.args.self.now.subgraphs c.insert.new.self c.args.sub.now (Some c.add-2.new.self) updates in
    record {
      this = this_at in_holders set (c.args.name.now, c.args.position) ∙ c.in_ok-add.ensures.put.this;
      others = λ s n p apart. others_at in_holders set (λ a. (a.0 ≡ c.args.name.now) × (a.1 ≡ c.args.position)) (λ a not_it. c.in_ok-add.ensures.put.others a.0 a.1 not_it ∙ ap (list_any (nat_eq a.1)) (c.open-holders.ensures a.0) ∙ sym (ap (λ o. in_holders o a) none)) s (n, p) (λ h. apart (h.0, h.1.0, h.1.1));
    }
