use Rattle.std.proofs.Common.{rules, ◌≡◌, true, None, Some, IsSome, refl, subst, sym, ap, ◌∙◌}
use Rattle.std.specs.Prelude.{nat_eq}
use Rattle.std.specs.List.{list_any}
use Rattle.std.specs.Str.{bytes_eq}
use Rattle.indexmap.specs.IndexMap.{get}
use Rattle.book_index.proofs.Sets.{updates_from}
use Rattle.book_index.proofs.Named.{in_set, set_others, sets_named, this_at, others_at, same_at}
use Rattle.book_index.proofs.holders.Holders.add.Goals as goal

pub returns-in_default-insert-clause-err : goal.returns-in_default-insert-clause-err
returns-in_default-insert-clause-err c =
    same_at in_set (sets_named c.args.self.now.sets (c.get_mut.follows.lender c.insert.new.self) c.args.name.now (Some c.insert.new.self) ((c.get_mut.follows.holds c.insert.new.self).3 (subst IsSome c.in-Some.ensures.value refl)))
    (λ p. ap (list_any (nat_eq p)) c.in_default-insert.ensures.err ∙ ap (λ o. in_set o p) c.in-Some.ensures.value)

pub returns-in-Some-clause-put : goal.returns-in-Some-clause-put
returns-in-Some-clause-put c =
    let set = sets_named c.args.self.now.sets (c.get_mut.follows.lender c.insert.new.self) c.args.name.now (Some c.insert.new.self) ((c.get_mut.follows.holds c.insert.new.self).3 (subst IsSome c.in-Some.ensures.value refl)) in
    record {
      this = this_at in_set set c.args.position ∙ c.in-Ok.ensures.updates.1;
      others = others_at in_set set (λ p. p ≡ c.args.position) (λ p apart. set_others c.in-Some.set.now c.insert.new.self c.args.position true c.in-Ok.ensures.updates p apart ∙ ap (λ o. in_set o p) c.in-Some.ensures.value);
    }

pub returns-clause-put : goal.returns-clause-put
returns-clause-put c =
    let none : get bytes_eq c.args.self.now.sets c.args.name.now ≡ None = search rules in
    let updates = updates_from bytes_eq c.get_mut.follows.lender-at-none c.args.self.now.sets c.insert-3.new.self c.in_ok-copy.copy c.args.name.now (Some c.insert-2.new.self) c.get_mut.follows.holds-at-none c.in_ok-copy.ensures c.in-Ok-insert-2.ensures.updates in
    let set = sets_named c.args.self.now.sets c.insert-3.new.self c.args.name.now (Some c.insert-2.new.self) updates in
    record {
      this = this_at in_set set c.args.position ∙ c.in-Ok-insert.ensures.updates.1;
      others = others_at in_set set (λ p. p ≡ c.args.position) (λ p apart. set_others c.new-set.result c.insert-2.new.self c.args.position true c.in-Ok-insert.ensures.updates p apart ∙ ap (list_any (nat_eq p)) c.new-set.ensures.empty ∙ sym (ap (λ o. in_set o p) none));
    }
