use Rattle.book_index.proofs.Counting.{stamps_few}
use Rattle.cache_book.proofs.Oldest.{none_stamped, oldest_stamped}
use Rattle.cache_book.proofs.journal.Journal.stamps.Goals as goal

pub returns-clause-none : goal.returns-clause-none
returns-clause-none c = rw (← c.self.view_is, c.stamps.ensures) (λ none. none_stamped c.self.inside.tables c.self.inside.events.items c.self.invariant.3 none)

pub returns-clause-told : goal.returns-clause-told
returns-clause-told c = rw (← c.self.view_is, c.stamps.ensures) (λ s oldest. oldest_stamped c.self.inside.limits c.self.inside.tables c.self.inside.events.items c.self.invariant.0.each c.self.invariant.3 s oldest)

pub returns-clause-few : goal.returns-clause-few
returns-clause-few c = rw (← c.self.view_is, c.stamps.ensures) (λ s oldest. stamps_few c.self.inside.events.items s.at c.self.inside.tables.stamps.stamps (oldest_stamped c.self.inside.limits c.self.inside.tables c.self.inside.events.items c.self.invariant.0.each c.self.invariant.3 s oldest))
