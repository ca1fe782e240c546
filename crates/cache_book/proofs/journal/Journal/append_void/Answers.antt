use Rattle.std.proofs.Common.{arith, ◌≡◌, [], ◌∷◌, ◌++◌, ◌∙◌}
use Rattle.std.proofs.lemmas.Grind.{common_steps}
use Rattle.cache_terms.specs.declared.events.Event.TheVariants.{Invalidate}
use Rattle.cache_model.proofs.Legality.{voided_legal}
use Rattle.cache_book.proofs.journal.Journal.append_void.Goals as goal

pub void-count-requires-clause-regular : goal.void-count-requires-clause-regular
void-count-requires-clause-regular c = rw c.deref.ensures.value (c.self.inside.limits, c.self.invariant.0.each)

pub invariant_of-self : goal.invariant_of-self
invariant_of-self c =
    let J = c.self.inside.events.items in
    let count = c.void-count.result in
    let after : c.push.new.self.items ≡ J ++ Invalidate c.args.who c.args.notice count ∷ [] = grind (arith, common_steps) in
    let free = rw (← c.self.view_is) at c.requires.free in
    let counted = rw (c.deref.ensures.value, c.into_targets-target.ensures.stamp) at c.void-count.ensures.count in
    let stands = rw (c.deref.ensures.value, c.into_targets-target.ensures.stamp) at (c.void-count.ensures.stands c.args.who) in (
      rw after (voided_legal c.self.inside.limits J c.args.who c.args.notice count c.self.invariant.0 counted free),
      c.self.invariant.1,
      omega (arith, c.self.invariant.2, c.push.ensures.capacity),
      rw after stands,
      c.void-count.ensures.limit ∙ c.self.invariant.4,
    )
