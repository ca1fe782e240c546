use Rattle.cache_book.proofs.Owing.{voided_kept}
use Rattle.cache_book.proofs.book.Book.invalidate.Goals as goal

pub returns-in-No-clause-keeps : goal.returns-in-No-clause-keeps
returns-in-No-clause-keeps c = rw (c.void.ensures.after) (voided_kept c.args.self.now.limits c.args.self.now.epoch c.args.self.now.probes c.args.self.now.journal c.args.who c.args.notice c.void.result.count)
