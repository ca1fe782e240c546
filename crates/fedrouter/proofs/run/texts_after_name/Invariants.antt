-- The texts so far, and the words that are left, are the words after the name.
use Rattle.std.proofs.Common.{◌≡◌, ◌++◌, map}
use Rattle.std.specs.Prelude.{string_bytes}
use Rattle.std.specs.Vec.Iter.{into_iter_items, into_iter_len}
use Rattle.fedrouter.specs.Words.{after_name}
use Rattle.fedrouter.proofs.run.texts_after_name.Given as goal

abbrev pub invariant-loop-word : goal.invariant-loop-word
invariant-loop-word l = l.words.items ++ map string_bytes (into_iter_items l.rest) ≡ after_name (into_iter_items l.fn.args)

abbrev pub decreases-loop-word : goal.decreases-loop-word
decreases-loop-word l = into_iter_len l.rest
