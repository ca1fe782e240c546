use Rattle.cache_model.specs.Journal.{CoversAfter}
use Rattle.cache_model.proofs.Last.{IsLastBelow}
use Rattle.plain_book.proofs.scan.last_cover.Given as goal

abbrev pub invariant-loop-at : goal.invariant-loop-at
invariant-loop-at l = IsLastBelow (CoversAfter l.events l.after l.key l.tags) l.at l.last
