use Rattle.std.proofs.Common.{◌≡◌, List, ℕ, take, nat_cmp}
use Rattle.std.specs.BTreeSet.{contains}
use Rattle.std.specs.Cmp.Lexicographic.{slice_cmp}
use Rattle.json_value.specs.Grammar.{has}
use Rattle.json_members.proofs.open_members.names_of.Given as goal

abbrev pub invariant-loop-i : goal.invariant-loop-i
invariant-loop-i l = (k : List ℕ) → contains (slice_cmp nat_cmp) l.names k ≡ has (take l.i l.members) k
