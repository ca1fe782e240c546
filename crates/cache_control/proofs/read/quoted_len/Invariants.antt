use Rattle.std.proofs.Common.{◌≡◌, ◌+◌, false, drop}
use Rattle.std.specs.Option.{option_map}
use Rattle.cache_control.specs.Reading.{quoted_len}
use Rattle.cache_control.proofs.read.quoted_len.Given as goal

abbrev pub invariant-loop-i : goal.invariant-loop-i
invariant-loop-i l = quoted_len false l.text ≡ option_map (λ n. l.i + n) (quoted_len l.escaped (drop l.i l.text))
