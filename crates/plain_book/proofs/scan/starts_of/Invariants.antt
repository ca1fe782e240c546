use Rattle.std.proofs.Common.{◌≡◌, take}
use Rattle.cache_model.specs.Journal.{starts}
use Rattle.plain_book.proofs.scan.starts_of.Given as goal

abbrev pub invariant-loop-event : goal.invariant-loop-event
invariant-loop-event l = l.count ≡ starts (take l.event-index l.events)
