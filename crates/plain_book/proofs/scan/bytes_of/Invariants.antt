use Rattle.std.proofs.Common.{◌≡◌, take}
use Rattle.cache_model.specs.Journal.{bytes}
use Rattle.plain_book.proofs.scan.bytes_of.Given as goal

abbrev pub invariant-loop-event : goal.invariant-loop-event
invariant-loop-event l = l.total ≡ bytes (take l.event-index l.events)
