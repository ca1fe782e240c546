use Rattle.cache_book.proofs.book.Book.stamps.Goals as goal

pub returns-clause-none : goal.returns-clause-none
returns-clause-none c = rw (← c.self.view_is) c.stamps.ensures.none
