use Rattle.std.proofs.Common.{◌≡◌, [], ◌∷◌, ◌++◌, Some, sym, ◌∙◌, arith}
use Rattle.std.specs.Option.{option_copied}
use Rattle.std.proofs.lemmas.Grind.{common_steps}
use Rattle.cache_terms.specs.declared.events.Event.TheVariants.{Lookup}
use Rattle.cache_model.specs.Journal.{kept_at}
use Rattle.book_tables.specs.Refs.{kept_shown}
use Rattle.book_tables.proofs.Standings.{lookup_stands}
use Rattle.cache_book.proofs.ask.hit.Goals as goal

pub unwrap-requires : goal.unwrap-requires
unwrap-requires c =
    let kept : kept_at c.args.events.now.items c.args.at ≡ Some (kept_shown c.unwrap-kept.result) = sym (rw (c.deref.ensures.value, c.unwrap-kept.ensures) at c.kept.ensures) in
    let value = c.requires.sound.value c.args.at (kept_shown c.unwrap-kept.result) kept in
    c.as_ref.ensures.variant ∙ value

pub returns-clause-stands : goal.returns-clause-stands
returns-clause-stands c =
    let J = c.args.events.now.items in
    let after : c.push.new.self.items ≡ J ++ Lookup c.args.pass.who c.args.key (option_copied c.args.id) c.args.now (Some c.args.at) ∷ [] = grind (arith, common_steps) in
    rw after (lookup_stands c.args.tables.now J c.args.pass.who c.args.key (option_copied c.args.id) c.args.now (Some c.args.at) c.requires.regular c.requires.stands)
