use Rattle.std.proofs.Common.{◌≡◌, ℕ, List, take, drop}
use Rattle.std.specs.Str.{bytes_eq}
use Rattle.indexmap.specs.IndexSet.{contains}
use Rattle.gql_inputs.specs.Variables.{defines}
use Rattle.gql_inputs.proofs.Defining.{VarsRun}
use Rattle.gql_inputs.proofs.variables.coerce_all.Given as goal

abbrev pub invariant-loop-i : goal.invariant-loop-i
invariant-loop-i l = record {
  run : VarsRun l.schema l.given.members.now l.definitions (take l.i l.definitions) (drop l.i l.definitions) l.made;
  seen : (q : List ℕ) → contains bytes_eq l.seen q ≡ defines (take l.i l.definitions) q;
}
