use Rattle.std.proofs.Common.{◌≡◌, ◌++◌, drop, map}
use Rattle.std.specs.Prelude.{string_bytes}
use Rattle.gql_print.specs.Words as w
use Rattle.gql_print.specs.Canonical.{spaced}
use Rattle.gql_print.proofs.definitions.put_operations.Given as goal

abbrev pub invariant-loop-i : goal.invariant-loop-i
invariant-loop-i l = string_bytes l.out ++ spaced (w.joined (map w.operation_words (drop l.i l.operations))) ≡ string_bytes l.fn.out ++ spaced (w.joined (map w.operation_words l.operations))
