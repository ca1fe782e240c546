use Rattle.std.proofs.Common.{◌≡◌, drop}
use Rattle.cache_model.specs.Journal.{start_from, start_of}
use Rattle.plain_book.proofs.scan.start_of.Given as goal

abbrev pub invariant-loop-at : goal.invariant-loop-at
invariant-loop-at l = start_from l.at (drop l.at l.events) l.wanted ≡ start_of l.events l.wanted
