use Rattle.std.proofs.Common.{arith, ap, ◌∙◌}
use Rattle.std.specs.Option.{option_copied}
use Rattle.cache_model.proofs.Sound.{sound_of}
use Rattle.cache_book.proofs.Asking.{answered_legal, looked_regular}
use Rattle.cache_book.proofs.journal.Journal.ask.Goals as goal

pub chosen-requires-clause-stands : goal.chosen-requires-clause-stands
chosen-requires-clause-stands c = rw c.deref.ensures.value c.self.invariant.3

pub chosen-requires-clause-sound : goal.chosen-requires-clause-sound
chosen-requires-clause-sound c = rw c.deref.ensures.value (sound_of c.self.inside.limits c.self.inside.events.items c.self.invariant.0.each)

pub hit-requires-clause-sound : goal.hit-requires-clause-sound
hit-requires-clause-sound c = sound_of c.self.inside.limits c.self.inside.events.items c.self.invariant.0.each

pub hit-requires-clause-regular : goal.hit-requires-clause-regular
hit-requires-clause-regular c = (c.self.inside.limits, c.self.invariant.0.each)

pub miss-requires-clause-regular : goal.miss-requires-clause-regular
miss-requires-clause-regular c =
    let room = rw (← c.self.view_is) at c.requires.room in
    let choice = rw c.deref.ensures.value at c.in-None.ensures.choice in
    looked_regular c.self.inside.limits c.self.inside.events.items c.args.pass.who c.args.key (option_copied c.args.id) c.args.now c.self.invariant.0 room choice

pub invariant_of-self : goal.invariant_of-self
invariant_of-self c =
    let room = rw (← c.self.view_is) at c.requires.room in
    let legal = answered_legal c.self.inside.limits c.args.pass (option_copied c.args.id) c.args.now c.args.key c.self.inside.events.items c.hit.new.events.items c.hit.result c.self.invariant.0 room c.hit.ensures.ok c.hit.ensures.err in
    (legal, c.self.invariant.1, omega (arith, c.self.invariant.2, c.hit.ensures.capacity), c.hit.ensures.stands, c.self.invariant.4)

pub invariant_of-self-in-None : goal.invariant_of-self-in-None
invariant_of-self-in-None c =
    let room = rw (← c.self.view_is) at c.requires.room in
    let legal = answered_legal c.self.inside.limits c.args.pass (option_copied c.args.id) c.args.now c.args.key c.self.inside.events.items c.miss.new.events.items c.miss.result c.self.invariant.0 room c.miss.ensures.ok c.miss.ensures.err in
    (legal, c.self.invariant.1, omega (arith, c.self.invariant.2, c.miss.ensures.capacity), c.miss.ensures.stands, ap (λ s. s.limit) c.miss.ensures.stamps ∙ c.self.invariant.4)
