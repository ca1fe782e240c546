use Rattle.std.proofs.Common.{None}
use Rattle.cache_terms.specs.declared.events.Outcome.TheVariants as outcome
use Rattle.book_tables.proofs.Judged.{filled_idle}
use Rattle.book_tables.proofs.Standings.{keyed_of, targeted_of}
use Rattle.book_tables.proofs.tables.Tables.fill.Goals as goal

pub returns-in-None-clause-filled : goal.returns-in-None-clause-filled
returns-in-None-clause-filled c = rw c.in-None.is (filled_idle c.args.limits c.args.events.now c.requires.fits c.args.self.now c.args.ticket None outcome.Failed (λ h. cc h) c.requires.stands.bytes (keyed_of c.args.self.now c.args.events.now c.requires.stands) (targeted_of c.args.self.now c.args.events.now c.requires.stands))
