use Rattle.std.proofs.Common.{rules, ◌≡◌, true, false, refl}
use Rattle.book_index.proofs.Named.{named_undone, was_absent}
use Rattle.book_index.proofs.tag_index.add_names.Goals as goal

pub returns-in_default-clause-same_types : goal.returns-in_default-clause-same_types
returns-in_default-clause-same_types c =
    let new : c.in_ok-new.new ≡ true = search rules in
    named_undone c.args.types.now c.add.new.self c.add.new.self c.args.sub.now c.args.type_name.now c.args.position true c.remove.new.self false
    (was_absent c.in_ok-new.new _ c.in_ok-new.ensures.new new) c.in_ok-new.ensures.put (λ s n p. refl) c.remove.ensures
