use Rattle.std.proofs.Common.{◌≡◌, ◌++◌}
use Rattle.std.specs.Prelude.{map}
use Rattle.std.specs.Vec.Iter.{into_iter_items}
use Rattle.answer_text.specs.FetchErrors.{fetch_error}
use Rattle.answer_text.proofs.body.fetch_values.Given as goal

abbrev pub invariant-listing : goal.invariant-listing
invariant-listing l = l.values ++ map fetch_error (into_iter_items l.error-iterator) ≡ map fetch_error l.fn.errors.items
