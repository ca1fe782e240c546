use Rattle.std.proofs.Common.{◌≡◌, Some, IsSome, refl, subst, ap, ◌∙◌}
use Rattle.book_index.proofs.Named.{in_holders, sets_subgraph, this_at, others_at}
use Rattle.book_index.proofs.subgraph_holders.SubgraphHolders.remove.Goals as goal

pub returns-in-Some : goal.returns-in-Some
returns-in-Some c =
    let set = sets_subgraph c.args.self.now.subgraphs (c.get_mut.follows.lender c.remove.new.self) c.args.sub.now (Some c.remove.new.self) ((c.get_mut.follows.holds c.remove.new.self).3 (subst IsSome c.in-Some.ensures.value refl)) in
    record {
      this = this_at in_holders set (c.args.name.now, c.args.position) ∙ c.remove.ensures.this;
      others = λ s n p apart. others_at in_holders set (λ a. (a.0 ≡ c.args.name.now) × (a.1 ≡ c.args.position)) (λ a not_it. c.remove.ensures.others a.0 a.1 not_it ∙ ap (λ o. in_holders o a) c.in-Some.ensures.value) s (n, p) (λ h. apart (h.0, h.1.0, h.1.1));
    }
