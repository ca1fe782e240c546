use Rattle.std.proofs.Common.{◌≡◌, ℕ, List, take, drop}
use Rattle.std.specs.Str.{bytes_eq}
use Rattle.indexmap.specs.IndexSet.{contains}
use Rattle.std.specs.Prelude.{map}
use Rattle.gql_inputs.specs.Constants.{constant, constant_member, firsts, firsts_after, has}
use Rattle.gql_inputs.proofs.constant.+constant.Given as goal

abbrev pub invariant-constant_items-loop-i : goal.invariant-constant_items-loop-i
invariant-constant_items-loop-i l = l.made ≡ map constant (take l.i l.values)

abbrev pub invariant-constant_members-loop-i : goal.invariant-constant_members-loop-i
invariant-constant_members-loop-i l = record {
  firsts : firsts_after l.made (map constant_member (drop l.i l.members)) ≡ firsts (map constant_member l.members);
  names : (q : List ℕ) → contains bytes_eq l.names q ≡ has l.made q;
}
