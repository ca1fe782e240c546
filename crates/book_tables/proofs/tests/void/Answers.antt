use Rattle.std.proofs.Common.{arith, ◌≡◌, ◌≤◌, ◌+◌, [], ◌∷◌, ◌++◌, length, refl, vec_capacity}
use Rattle.std.proofs.lemmas.Grind.{common_steps}
use Rattle.cache_terms.specs.declared.events.Event.TheVariants.{Invalidate}
use Rattle.cache_model.specs.Journal.{reserved}
use Rattle.book_tables.proofs.Shelved.{shelf_voided}
use Rattle.book_tables.proofs.tests.void.Goals as goal

pub void-count-requires-clause-regular : goal.void-count-requires-clause-regular
void-count-requires-clause-regular c = rw c.deref-2.ensures.value (c.args.limits, c.requires.legal.each)

pub returns : goal.returns
returns c =
    let J = c.args.events.now.items in
    let count = c.void-count.result in
    let room : length c.args.events.now.items + reserved c.args.events.now.items + 3 ≤ c.args.limits.events = rw (← c.deref.ensures.value) (c.if-not-has_room.ensures refl) in
    let after : c.push.new.self.items ≡ c.args.events.now.items ++ Invalidate 0 c.args.target.now c.void-count.result ∷ [] = grind (arith, common_steps) in
    let counted = rw (c.deref-2.ensures.value, c.in_ok-stamp.ensures) at c.void-count.ensures.count in
    let stands = rw (c.deref-2.ensures.value, c.in_ok-stamp.ensures) at (c.void-count.ensures.stands 0) in
    rw after (shelf_voided c.args.limits J (vec_capacity c.args.events.now) (vec_capacity c.push.new.self) c.args.target.now count c.args.tables.now c.void-count.new.self c.requires room counted stands c.void-count.ensures.limit (omega (arith, c.push.ensures.capacity)))
