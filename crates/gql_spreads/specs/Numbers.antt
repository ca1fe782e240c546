-- Serves private clauses and proofs alone.
-- Fragments by their numbers.
use Rattle.std.specs.Prelude.{◌≡◌, ℕ, ◌<◌, Bool, true, List, [], ◌∷◌, Option, Some, None, map, length, slice_index_or}
use Rattle.std.specs.List.{position_from, filter_map}
use Rattle.std.specs.Ordering.{nat_cmp}
use Rattle.std.specs.Cmp.Lexicographic.{slice_cmp}
use Rattle.std.specs.BTreeMap.{BTreeMap, get}
use Rattle.gql_terms.specs.declared.documents.Fragment.{Fragment}
use Rattle.gql_spreads.specs.Spreads.{is_named, fragment_spreads}

-- the number at the name
abbrev pub number_in : BTreeMap (List ℕ) ℕ → List ℕ → Option ℕ
number_in numbers name = get (λ a b. slice_cmp nat_cmp a b) numbers name

-- the number of the first fragment of the name
abbrev pub number_of : List Fragment → List ℕ → Option ℕ
number_of fragments name = position_from (is_named name) 0 fragments

abbrev pub AreNumbers : List Fragment → BTreeMap (List ℕ) ℕ → Type 0
AreNumbers fragments numbers = (name : List ℕ) → number_in numbers name ≡ number_of fragments name

-- the known fragments that a fragment spreads
abbrev pub targets_of : BTreeMap (List ℕ) ℕ → Fragment → List ℕ
targets_of numbers fragment = filter_map (number_in numbers) (fragment_spreads fragment)

-- unknown, or marked
abbrev pub is_marked : List Bool → Option ℕ → Bool
is_marked cyclic None = true
is_marked cyclic (Some number) = slice_index_or cyclic number true

abbrev pub is_bad : BTreeMap (List ℕ) ℕ → List Bool → List ℕ → Bool
is_bad numbers cyclic name = is_marked cyclic (number_in numbers name)

-- each number has its mark
abbrev pub HaveMarks : BTreeMap (List ℕ) ℕ → List Bool → Type 0
HaveMarks numbers cyclic = (name : List ℕ) (number : ℕ) → number_in numbers name ≡ Some number → number < length cyclic
