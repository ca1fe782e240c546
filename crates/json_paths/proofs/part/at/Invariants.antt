use Rattle.std.proofs.Common.{◌≡◌, drop}
use Rattle.json_paths.specs.Parts as spec
use Rattle.json_paths.proofs.part.at.Given as goal

abbrev pub invariant-loop-spot : goal.invariant-loop-spot
invariant-loop-spot l = spec.at l.found (drop l.spot-index l.fn.place.spots) ≡ spec.at l.fn.value l.fn.place.spots
