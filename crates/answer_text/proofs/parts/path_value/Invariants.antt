use Rattle.std.proofs.Common.{◌≡◌, ◌++◌}
use Rattle.std.specs.Prelude.{map}
use Rattle.std.specs.Vec.Iter.{into_iter_items}
use Rattle.answer_text.specs.ErrorValues.{spot_value}
use Rattle.answer_text.proofs.parts.path_value.Given as goal

abbrev pub invariant-listing : goal.invariant-listing
invariant-listing l = l.values ++ map spot_value (into_iter_items l.spot-iterator) ≡ map spot_value l.fn.place.spots
