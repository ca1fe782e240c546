use Rattle.std.proofs.Common.{arith, ◌≡◌, ◌≤◌, ◌+◌, [], ◌∷◌, ◌++◌, length, None, subst, refl, vec_capacity, ap, ◌∙◌}
use Rattle.std.specs.Option.{option_copied}
use Rattle.std.proofs.lemmas.Grind.{common_steps}
use Rattle.cache_terms.specs.declared.events.Event.TheVariants.{Lookup, Start}
use Rattle.cache_model.specs.Journal.{reserved, starts, IsChoice}
use Rattle.cache_model.proofs.Sound.{sound_of}
use Rattle.book_tables.specs.Standing.{StandsFor}
use Rattle.book_tables.proofs.Standings.{lookup_stands}
use Rattle.book_tables.proofs.Shelved.{regular_lookup, shelf_asked}
use Rattle.book_tables.proofs.tests.ask.Goals as goal

pub chosen-requires-clause-sound : goal.chosen-requires-clause-sound
chosen-requires-clause-sound c = rw c.deref.ensures.value (sound_of c.args.limits c.args.events.now.items c.requires.legal.each)

pub note_start-requires-clause-stands : goal.note_start-requires-clause-stands
note_start-requires-clause-stands c =
    let J = c.args.events.now.items in
    let longer : c.push.new.self.items ≡ c.args.events.now.items ++ Lookup 0 c.args.key.now (option_copied c.args.id) 0 None ∷ [] = grind (arith, common_steps) in
    rw (c.deref-3.ensures.value, longer) (lookup_stands c.args.tables.now J 0 c.args.key.now (option_copied c.args.id) 0 None (c.args.limits, c.requires.legal.each) c.requires.stands)

pub note_start-requires-clause-regular : goal.note_start-requires-clause-regular
note_start-requires-clause-regular c =
    let J = c.args.events.now.items in
    let longer : c.push.new.self.items ≡ c.args.events.now.items ++ Lookup 0 c.args.key.now (option_copied c.args.id) 0 None ∷ [] = grind (arith, common_steps) in
    let room : length c.args.events.now.items + reserved c.args.events.now.items + 3 ≤ c.args.limits.events = rw (← c.deref-2.ensures.value) (c.if-not-has_room.ensures refl) in
    let choice : IsChoice c.args.events.now.items c.args.key.now (option_copied c.args.id) 0 None = rw (← c.deref.ensures.value) c.in_default.ensures.choice in
    rw (c.deref-3.ensures.value, longer) (regular_lookup c.args.limits J c.args.key.now (option_copied c.args.id) c.requires.legal room choice)

pub returns : goal.returns
returns c =
    let J = c.args.events.now.items in
    let longer : c.push.new.self.items ≡ c.args.events.now.items ++ Lookup 0 c.args.key.now (option_copied c.args.id) 0 None ∷ [] = grind (arith, common_steps) in
    let room : length c.args.events.now.items + reserved c.args.events.now.items + 3 ≤ c.args.limits.events = rw (← c.deref-2.ensures.value) (c.if-not-has_room.ensures refl) in
    let choice : IsChoice c.args.events.now.items c.args.key.now (option_copied c.args.id) 0 None = rw (← c.deref.ensures.value) c.in_default.ensures.choice in
    let stands = subst (λ l. StandsFor c.note_start.new.self (l ++ Start 0 (starts l) c.args.key.now (option_copied c.args.id) 0 ∷ [])) (c.deref-3.ensures.value ∙ longer) (c.note_start.ensures.stands 0 c.args.key.now (option_copied c.args.id) 0) in
    let ticket : c.starts.result ≡ starts c.args.events.now.items = c.starts.ensures ∙ c.requires.stands.count in
    let after : c.push-2.new.self.items ≡ c.push.new.self.items ++ Start 0 (starts c.args.events.now.items) c.args.key.now (option_copied c.args.id) 0 ∷ [] = grind (arith, common_steps, ticket) in
    rw (after, longer) (shelf_asked c.args.limits J (vec_capacity c.args.events.now) (vec_capacity c.push-2.new.self) c.args.key.now (option_copied c.args.id) c.args.tables.now c.note_start.new.self c.requires room choice stands (ap (λ s. s.limit) c.note_start.ensures.stamps) (omega (arith, c.push.ensures.capacity, c.push-2.ensures.capacity)))
