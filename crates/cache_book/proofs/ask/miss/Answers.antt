use Rattle.std.proofs.Common.{◌≡◌, [], ◌∷◌, ◌++◌, None, sym, ap, ◌∙◌, arith, length-append}
use Rattle.std.specs.Option.{option_copied}
use Rattle.std.proofs.lemmas.Grind.{common_steps}
use Rattle.cache_terms.specs.declared.events.Event.TheVariants.{Lookup, Start}
use Rattle.cache_model.specs.Journal.{starts}
use Rattle.book_tables.specs.Standing.{IsRegular}
use Rattle.cache_book.proofs.Telling.{each_front}
use Rattle.cache_book.proofs.Asking.{starts_lookup}
use Rattle.book_tables.proofs.Standings.{lookup_stands}
use Rattle.cache_book.proofs.ask.miss.Goals as goal

pub note_start-requires-clause-stands : goal.note_start-requires-clause-stands
note_start-requires-clause-stands c =
    let J = c.args.events.now.items in
    let e = Lookup c.args.pass.who c.args.key (option_copied c.args.id) c.args.now None in
    let after : c.push.new.self.items ≡ J ++ Lookup c.args.pass.who c.args.key (option_copied c.args.id) c.args.now None ∷ [] = grind (arith, common_steps) in
    let front : IsRegular J = (c.requires.regular.0, each_front (c.requires.regular.0) J (e ∷ []) c.requires.regular.1) in
    rw (c.deref.ensures.value, after) (lookup_stands c.args.tables.now J c.args.pass.who c.args.key (option_copied c.args.id) c.args.now None front c.requires.stands)

pub note_start-requires-clause-regular : goal.note_start-requires-clause-regular
note_start-requires-clause-regular c =
    let J = c.args.events.now.items in
    let after : c.push.new.self.items ≡ J ++ Lookup c.args.pass.who c.args.key (option_copied c.args.id) c.args.now None ∷ [] = grind (arith, common_steps) in
    rw (c.deref.ensures.value, after) c.requires.regular

pub note_start-requires-clause-room : goal.note_start-requires-clause-room
note_start-requires-clause-room c =
    let J = c.args.events.now.items in
    let e = Lookup c.args.pass.who c.args.key (option_copied c.args.id) c.args.now None in
    let after : c.push.new.self.items ≡ J ++ Lookup c.args.pass.who c.args.key (option_copied c.args.id) c.args.now None ∷ [] = grind (arith, common_steps) in
    rw (c.deref.ensures.value, after) (omega (arith, c.requires.slots, length-append J (e ∷ [])))

pub returns-clause-stands : goal.returns-clause-stands
returns-clause-stands c =
    let J = c.args.events.now.items in
    let id = option_copied c.args.id in
    let K = c.push.new.self.items in
    let looked : c.push.new.self.items ≡ J ++ Lookup c.args.pass.who c.args.key (option_copied c.args.id) c.args.now None ∷ [] = grind (arith, common_steps) in
    let ticket : c.starts-ticket.result ≡ starts c.push.new.self.items = c.starts-ticket.ensures ∙ c.requires.stands.count ∙ starts_lookup J c.args.pass.who c.args.key (option_copied c.args.id) c.args.now ∙ ap starts (sym looked) in
    let after : c.push-2.new.self.items ≡ K ++ Start c.args.pass.who c.starts-ticket.result c.args.key (option_copied c.args.id) c.args.now ∷ [] = grind (arith, common_steps) in
    rw (after, ticket) (rw c.deref.ensures.value at (c.note_start.ensures.stands c.args.pass.who c.args.key id c.args.now))
