use Rattle.std.proofs.Common.{arith, ◌≡◌, ◌<◌, length, [], ◌∷◌, ◌++◌, ◌∙◌}
use Rattle.std.proofs.lemmas.Grind.{common_steps}
use Rattle.cache_terms.specs.declared.events.Event.TheVariants.{Settle}
use Rattle.cache_book.specs.Settling.{got_by}
use Rattle.cache_book.proofs.Spending.{room_to_settle, appended}
use Rattle.cache_book.proofs.journal.Journal.append_settle.Goals as goal

pub unwrap-requires : goal.unwrap-requires
unwrap-requires c =
    let owed = rw (← c.self.view_is) at c.requires.owed in
    let room : length c.self.inside.events.items < c.self.inside.limits.events = room_to_settle c.self.inside.limits c.self.inside.events.items c.args.ticket owed.start c.self.invariant.0 owed.unsettled in
    c.push.ensures.succeeds (omega (arith, room, c.self.invariant.2))

pub invariant_of-self : goal.invariant_of-self
invariant_of-self c =
    let J = c.self.inside.events.items in
    let out = c.decide-outcome.result in
    let owed = rw (← c.self.view_is) at c.requires.owed in
    let due = rw c.deref.ensures.value at c.decide-outcome.ensures.due in
    let stands = rw c.deref.ensures.value at (c.decide-outcome.ensures.stands c.args.who) in
    let after : c.push.new.self.items ≡ J ++ Settle c.args.who c.args.ticket (got_by c.args.report out) out ∷ [] = grind (arith, common_steps) in (
      rw after (appended c.self.inside.limits J c.args.who c.args.ticket c.args.report out c.self.invariant.0 owed c.requires.range due),
      c.self.invariant.1,
      omega (arith, c.self.invariant.2, c.push.ensures.capacity),
      rw after stands,
      c.decide-outcome.ensures.limit ∙ c.self.invariant.4,
    )

pub returns-clause-due : goal.returns-clause-due
returns-clause-due c = rw (← c.self.view_is) (rw c.deref.ensures.value at c.decide-outcome.ensures.due)
