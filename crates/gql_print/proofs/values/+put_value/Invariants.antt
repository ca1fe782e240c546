use Rattle.std.proofs.Common.{◌≡◌, ◌++◌, drop, map}
use Rattle.std.specs.Prelude.{string_bytes}
use Rattle.gql_print.specs.Words as w
use Rattle.gql_print.specs.Canonical.{spaced}
use Rattle.gql_print.proofs.values.+put_value.Given as goal

abbrev pub invariant-put_values-loop-i : goal.invariant-put_values-loop-i
invariant-put_values-loop-i l = string_bytes l.out ++ spaced (w.joined (map w.value_words (drop l.i l.values))) ≡ string_bytes l.fn.out ++ spaced (w.joined (map w.value_words l.values))

abbrev pub invariant-put_pairs-loop-i : goal.invariant-put_pairs-loop-i
invariant-put_pairs-loop-i l = string_bytes l.out ++ spaced (w.joined (map w.pair_words (drop l.i l.pairs))) ≡ string_bytes l.fn.out ++ spaced (w.joined (map w.pair_words l.pairs))
