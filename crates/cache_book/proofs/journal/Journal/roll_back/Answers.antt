use Rattle.std.proofs.Common.{arith, ◌≡◌, ◌++◌, take, ◌∙◌, ap, sym}
use Rattle.cache_model.specs.Legal.{EachFits, IsLegal}
use Rattle.cache_model.proofs.Growth.{take_all}
use Rattle.book_tables.specs.Standing.{StandsFor}
use Rattle.cache_book.proofs.journal.Journal.roll_back.Goals as goal

pub invariant_of-self : goal.invariant_of-self
invariant_of-self c =
    let w = c.requires in
    let split : c.self.inside.events.items ≡ w.front ++ w.more = rw (← c.self.view_is) at w.split in
    let cut : c.truncate.new.self.items ≡ w.front = c.truncate.ensures.items ∙ ap (take c.args.len) split ∙ ap (λ n. take n (w.front ++ w.more)) (sym w.length_is) ∙ take_all w.front w.more in
    let legal : IsLegal c.self.inside.limits w.front = rw (← c.self.view_is) at w.legal in
    let each : EachFits c.self.inside.limits (w.front ++ w.more) = rw split at c.self.invariant.0.each in
    let stands : StandsFor c.self.inside.tables (w.front ++ w.more) = rw split at c.self.invariant.3 in
    let back : StandsFor c.roll_back.new.self w.front = c.roll_back.ensures.stands w.front w.more stands (c.self.inside.limits, each) w.quiet w.starts_is in
    (rw cut legal, c.self.invariant.1, omega (arith, c.self.invariant.2, c.truncate.ensures.capacity), rw cut back, c.roll_back.ensures.limit ∙ c.self.invariant.4)
