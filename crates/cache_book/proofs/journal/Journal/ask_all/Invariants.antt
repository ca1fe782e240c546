use Rattle.std.proofs.Common.{◌≡◌, ◌+◌, ◌*◌, ◌≤◌, List, ◌++◌, All, length, vec_len, vec_capacity}
use Rattle.std.specs.Option.{option_copied}
use Rattle.std.specs.Vec.Iter.{into_iter_items, into_iter_len}
use Rattle.cache_terms.specs.declared.events.Event.{Event}
use Rattle.cache_book.specs.declared.found.Found.{Found}
use Rattle.cache_model.specs.Journal.{reserved}
use Rattle.book_tables.specs.Standing.{IsLookupOrStart}
use Rattle.cache_book.specs.Looking.{AskedAll}
use Rattle.cache_book.proofs.journal.Journal.ask_all.Given as goal

-- what answers the rest of the asks completes the answers so far
abbrev pub invariant-asks : goal.invariant-asks
invariant-asks l = record {
  rest : (more : List Found) (K : List Event) → AskedAll l.pass (option_copied l.id) l.now (into_iter_items l.key-iterator) l.self.events more K → AskedAll l.pass (option_copied l.id) l.now l.fn.asks.items l.fn.self.events (l.answers.items ++ more) K;
  limits : l.self.limits ≡ l.fn.self.limits;
  probes : l.self.probes ≡ l.fn.self.probes;
  went : (more : List Event) × (l.self.events ≡ l.fn.self.events ++ more) × All IsLookupOrStart more;
  room : length l.self.events + reserved l.self.events + 3 * length (into_iter_items l.key-iterator) ≤ l.fn.self.limits.events;
  slots : vec_len l.answers + into_iter_len l.key-iterator ≤ vec_capacity l.answers;
}
