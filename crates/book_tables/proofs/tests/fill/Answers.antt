use Rattle.std.proofs.Common.{arith, ◌≡◌, ◌<◌, ◌∙◌, [], ◌∷◌, ◌++◌, length, refl, vec_capacity, Some, ap, sym}
use Rattle.std.proofs.lemmas.Grind.{common_steps}
use Rattle.std.proofs.lemmas.Option.{same_Some}
use Rattle.cache_terms.specs.declared.events.Event.TheVariants.{Settle}
use Rattle.cache_model.specs.Journal.{Started, start_of}
use Rattle.book_tables.specs.Closing.{got_of, IsUnsettled, IsDueTo}
use Rattle.book_tables.specs.Refs.{start_shown, start_seen}
use Rattle.book_tables.proofs.Shelved.{shelf_filled, room_to_settle}
use Rattle.book_tables.proofs.tests.fill.Goals as goal

pub unwrap-requires : goal.unwrap-requires
unwrap-requires c =
    let unsettled : IsUnsettled c.args.events.now.items c.args.ticket = rw (← c.deref.ensures.value) (c.if-not-is_open.ensures refl) in
    let room : length c.args.events.now.items < c.args.limits.events = room_to_settle c.args.limits c.args.events.now.items c.args.ticket c.requires.shelf.legal unsettled in
    c.push.ensures.succeeds (omega (arith, room, c.requires.shelf.room, c.args.events.now.ok.0))

pub returns : goal.returns
returns c =
    let J = c.args.events.now.items in
    let out = c.settle-outcome.result in
    let unsettled : IsUnsettled c.args.events.now.items c.args.ticket = rw (← c.deref.ensures.value) (c.if-not-is_open.ensures refl) in
    let found : start_of c.args.events.now.items c.args.ticket ≡ Some (start_shown c.unwrap-who.result) = rw (← c.deref-2.ensures.value) (sym c.start.ensures ∙ ap start_seen c.unwrap-who.ensures) in
    let due : IsDueTo c.args.limits c.args.events.now.items c.args.ticket (Some (got_of c.args.offer c.settle-outcome.result)) c.settle-outcome.result = rw (← c.deref-3.ensures.value) c.settle-outcome.ensures.due in
    let stands = rw c.deref-3.ensures.value at (c.settle-outcome.ensures.stands c.unwrap-who.result.who) in
    let after : c.push.new.self.items ≡ c.args.events.now.items ++ Settle c.unwrap-who.result.who c.args.ticket (Some (got_of c.args.offer c.settle-outcome.result)) c.settle-outcome.result ∷ [] = grind (arith, common_steps) in
    rw after (shelf_filled c.args.limits J (vec_capacity c.args.events.now) (vec_capacity c.push.new.self) c.unwrap-who.result.who c.args.ticket c.args.offer out c.args.tables.now c.settle-outcome.new.self c.requires.shelf unsettled
    (λ s is. ap (λ (x : Started). x.who) (same_Some (start_shown c.unwrap-who.result) s (sym found ∙ is))) c.requires.lifetime c.requires.age due stands c.settle-outcome.ensures.limit (omega (arith, c.push.ensures.capacity)))
