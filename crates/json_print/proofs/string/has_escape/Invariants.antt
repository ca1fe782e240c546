use Rattle.std.specs.Prelude.{◌⊎◌, ◌↔◌, IsTrue, drop}
use Rattle.json_print.specs.Escapes.{HasEscape}
use Rattle.json_print.proofs.string.has_escape.Given as goal

abbrev pub invariant-loop-byte : goal.invariant-loop-byte
invariant-loop-byte l = HasEscape l.bytes ↔ (IsTrue l.found ⊎ HasEscape (drop l.byte-index l.bytes))
