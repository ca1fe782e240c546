use Rattle.std.proofs.Common.{rules, ◌≡◌, ℕ, List, [], false, None, Some, IsSome, length, refl, subst, sym, ap, ◌∙◌}
use Rattle.std.specs.Prelude.{nat_eq}
use Rattle.std.specs.List.{list_any}
use Rattle.std.specs.Str.{bytes_eq}
use Rattle.indexmap.specs.IndexMap.{get}
use Rattle.book_index.proofs.Named.{in_set, set_others, nothing, sets_named, this_at, others_at, same_at}
use Rattle.book_index.proofs.holders.Holders.remove.Goals as goal

pub returns-then-is_empty : goal.returns-then-is_empty
returns-then-is_empty c =
    let set = sets_named c.args.self.now.sets (c.get_mut.follows.lender c.swap_remove.new.self) c.args.name.now (Some c.swap_remove.new.self) ((c.get_mut.follows.holds c.swap_remove.new.self).3 (subst IsSome c.in-Some.ensures.value refl)) in
    let gone = sets_named (c.get_mut.follows.lender c.swap_remove.new.self) c.swap_remove-then-is_empty.new.self c.args.name.now None c.swap_remove-then-is_empty.ensures.updates in
    let short : length c.swap_remove.new.self.keys ≡ 0 = search rules in
    let none : c.swap_remove.new.self.keys ≡ [] = nothing c.swap_remove.new.self.keys short in
    let same : (name : List ℕ) (p : ℕ) → in_set (get bytes_eq c.swap_remove-then-is_empty.new.self name) p ≡ in_set (get bytes_eq (c.get_mut.follows.lender c.swap_remove.new.self) name) p = same_at in_set gone (λ p. sym (ap (λ o. in_set o p) set.this ∙ ap (list_any (nat_eq p)) none)) in
    record {
      this = same c.args.name.now c.args.position ∙ this_at in_set set c.args.position ∙ c.swap_remove.ensures.updates.1;
      others = λ other p apart. same other p ∙ others_at in_set set (λ x. x ≡ c.args.position) (λ x not_it. set_others c.in-Some.set.now c.swap_remove.new.self c.args.position false c.swap_remove.ensures.updates x not_it ∙ ap (λ o. in_set o x) c.in-Some.ensures.value) other p apart;
    }

pub returns-else-is_empty : goal.returns-else-is_empty
returns-else-is_empty c =
    let set = sets_named c.args.self.now.sets (c.get_mut.follows.lender c.swap_remove.new.self) c.args.name.now (Some c.swap_remove.new.self) ((c.get_mut.follows.holds c.swap_remove.new.self).3 (subst IsSome c.in-Some.ensures.value refl)) in
    record {
      this = this_at in_set set c.args.position ∙ c.swap_remove.ensures.updates.1;
      others = others_at in_set set (λ x. x ≡ c.args.position) (λ x not_it. set_others c.in-Some.set.now c.swap_remove.new.self c.args.position false c.swap_remove.ensures.updates x not_it ∙ ap (λ o. in_set o x) c.in-Some.ensures.value);
    }
