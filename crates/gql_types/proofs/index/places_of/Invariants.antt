use Rattle.std.proofs.Common.{◌≡◌, ◌++◌, ℕ, List, length, vec_len}
use Rattle.std.specs.Str.{bytes_eq}
use Rattle.indexmap.specs.IndexMap.{get}
use Rattle.gql_types.specs.Index.{first_place}
use Rattle.gql_types.proofs.index.places_of.Given as goal

-- the names that are left and those that were taken are the names, and the index has those that were taken
abbrev pub invariant-loop-name : goal.invariant-loop-name
invariant-loop-name l = record {
  taken : List (List ℕ);
  are : l.fn.names.items ≡ l.names.items ++ taken;
  places : (q : List ℕ) → get bytes_eq l.places q ≡ first_place (length l.names.items) q taken;
}

abbrev pub decreases-loop-name : goal.decreases-loop-name
decreases-loop-name l = vec_len l.names
