use Rattle.std.proofs.Common.{◌≡◌, ◌++◌, drop, map}
use Rattle.std.specs.Prelude.{string_bytes}
use Rattle.gql_print.specs.Words as w
use Rattle.gql_print.specs.Canonical.{spaced}
use Rattle.gql_print.proofs.selections.+put_selection.Given as goal

abbrev pub invariant-put_selections-loop-i : goal.invariant-put_selections-loop-i
invariant-put_selections-loop-i l = string_bytes l.out ++ spaced (w.joined (map w.selection_words (drop l.i l.selections))) ≡ string_bytes l.fn.out ++ spaced (w.joined (map w.selection_words l.selections))
