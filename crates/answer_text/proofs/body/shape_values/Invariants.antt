use Rattle.std.proofs.Common.{◌≡◌, ◌++◌}
use Rattle.std.specs.Prelude.{map}
use Rattle.std.specs.Vec.Iter.{into_iter_items}
use Rattle.answer_text.specs.ShapeErrors.{shape_error}
use Rattle.answer_text.proofs.body.shape_values.Given as goal

abbrev pub invariant-listing : goal.invariant-listing
invariant-listing l = l.values ++ map shape_error (into_iter_items l.error-iterator) ≡ map shape_error l.fn.errors.items
