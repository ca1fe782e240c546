use Rattle.std.proofs.Common.{◌≡◌, ◌+◌, ◌≤◌, ◌++◌, vec_len, vec_capacity}
use Rattle.std.specs.Option.{option_copied}
use Rattle.std.specs.Vec.Iter.{into_iter_items, into_iter_len}
use Rattle.cache_book.specs.Looking.{bypassed}
use Rattle.cache_book.proofs.ask.bypass_all.Given as goal

-- the answers so far and those to what is left are those to all
abbrev pub invariant-asks : goal.invariant-asks
invariant-asks l = record {
  answered : l.answers.items ++ bypassed l.pass (option_copied l.id) l.mark (into_iter_items l.key-iterator) ≡ bypassed l.pass (option_copied l.id) l.mark l.fn.asks.items;
  slots : vec_len l.answers + into_iter_len l.key-iterator ≤ vec_capacity l.answers;
}
