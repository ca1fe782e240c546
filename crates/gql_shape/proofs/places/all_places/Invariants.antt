use Rattle.std.proofs.Common.{◌≡◌, ℕ, ◌+◌, ◌≤◌, List, length, drop}
use Rattle.std.specs.Str.{bytes_eq}
use Rattle.indexmap.specs.IndexMap.{get}
use Rattle.gql_shape.specs.Completing.{place_of}
use Rattle.gql_shape.specs.Indexed.{place_or}
use Rattle.gql_shape.proofs.places.all_places.Given as goal

abbrev pub invariant-loop-i : goal.invariant-loop-i
invariant-loop-i l = record {
  within : l.i ≤ length l.members;
  places : (q : List ℕ) → place_or (get bytes_eq l.places q) (length l.members) ≡ l.i + place_of q (drop l.i l.members);
}

abbrev pub decreases-loop-i : goal.decreases-loop-i
decreases-loop-i l = l.i
