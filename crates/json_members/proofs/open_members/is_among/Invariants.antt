use Rattle.std.proofs.Common.{◌≡◌, drop}
use Rattle.json_value.specs.Grammar.{has}
use Rattle.json_members.proofs.open_members.is_among.Given as goal

abbrev pub invariant-loop-i : goal.invariant-loop-i
invariant-loop-i l = has (drop l.i l.members) l.name ≡ has l.members l.name
