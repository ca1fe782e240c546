use Rattle.std.proofs.Common.{◌≡◌, take}
use Rattle.std.specs.Str.Parse.{digits_value}
use Rattle.json_value.specs.Numbers.{AreDigits}
use Rattle.json_value.proofs.wholes.digits_number.Given as goal

abbrev pub invariant-loop-i : goal.invariant-loop-i
invariant-loop-i l = AreDigits (take l.i l.digits) × (l.number ≡ digits_value 10 (take l.i l.digits))
