use Rattle.std.proofs.Common.{rules, None, Some, IsSome, refl, subst, ap, ◌∙◌}
use Rattle.indexmap.specs.IndexMap.{Updates}
use Rattle.std.specs.Option.{option_copied, option_and_then}
use Rattle.book_index.specs.declared.key_index.KeyIndex.{KeyIndex}
use Rattle.book_index.specs.Positions.{in_slot, key_eq, SetsKey, HasSame, IsVacant}
use Rattle.book_index.proofs.Sets.{sets_key, gone_key}
use Rattle.book_index.proofs.key_index.KeyIndex.remove.Goals as goal

pub returns-then-not-is_vacant-clause-removed : goal.returns-then-not-is_vacant-clause-removed
returns-then-not-is_vacant-clause-removed c =
    sets_key _ _ c.args.key.now (option_copied c.args.id) None c.slot_remove-before.new.slot ((c.get_mut.follows.holds c.slot_remove-before.new.slot).3 (subst IsSome c.in-Some.ensures.value refl))
    c.slot_remove-before.ensures.removed.this
    (λ other apart. c.slot_remove-before.ensures.removed.others other apart ∙ ap (option_and_then (λ s. in_slot s other)) c.in-Some.ensures.value)

pub returns-in-Some-clause-removed : goal.returns-in-Some-clause-removed
returns-in-Some-clause-removed c =
    let mid : KeyIndex = record { alloc = c.args.self.now.alloc; slots = c.get_mut.follows.lender c.slot_remove-before.new.slot } in
    let new : KeyIndex = record { alloc = c.args.self.now.alloc; slots = c.swap_remove.new.self } in
    let updates : Updates key_eq c.args.self.now.slots (c.get_mut.follows.lender c.slot_remove-before.new.slot) c.args.key.now (Some c.slot_remove-before.new.slot) = (c.get_mut.follows.holds c.slot_remove-before.new.slot).3 (subst IsSome c.in-Some.ensures.value refl) in
    let set : SetsKey c.args.self.now mid c.args.key.now (option_copied c.args.id) None = sets_key c.args.self.now mid c.args.key.now (option_copied c.args.id) None c.slot_remove-before.new.slot updates
    c.slot_remove-before.ensures.removed.this
    (λ other apart. c.slot_remove-before.ensures.removed.others other apart ∙ ap (option_and_then (λ s. in_slot s other)) c.in-Some.ensures.value) in
    let vacant : IsVacant c.slot_remove-before.new.slot = search rules in
    let same : HasSame mid new = gone_key c.args.self.now mid new c.args.key.now c.slot_remove-before.new.slot updates c.swap_remove.ensures.updates vacant in
    record {
      this = same c.args.key.now (option_copied c.args.id) ∙ set.this;
      others = λ k s apart. same k s ∙ set.others k s apart;
    }
