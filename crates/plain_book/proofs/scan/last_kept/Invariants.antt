use Rattle.std.specs.Option.{option_copied}
use Rattle.plain_book.specs.Scan.{IsKeptFor}
use Rattle.cache_model.proofs.Last.{IsLastBelow}
use Rattle.plain_book.proofs.scan.last_kept.Given as goal

abbrev pub invariant-loop-at : goal.invariant-loop-at
invariant-loop-at l = IsLastBelow (IsKeptFor l.events l.key (option_copied l.scope)) l.at l.last
