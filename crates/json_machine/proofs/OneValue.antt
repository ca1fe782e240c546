-- A text stands for one value at most: for the one that is read.
use Rattle.std.proofs.Common.{◌≡◌, ◌∙◌, sym, ℕ, List}
use Rattle.json_value.specs.declared.tree.Json.{Json}
use Rattle.json_value.specs.Grammar.{Rules, IsText}
use Rattle.exact_read.proofs.Machines.{ok_is}
use Rattle.json_machine.proofs.Whole.{read_only}

pub one_value : (r : Rules) (v w : Json) (text : List ℕ) → IsText r v text → IsText r w text → v ≡ w
one_value r v w text first second = ok_is v w (sym (read_only r text v first) ∙ read_only r text w second)
