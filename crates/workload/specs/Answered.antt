-- What contracts see of the shop's line.
use Rattle.std.specs.Prelude.{◌≡◌, List, length, Option, Some, None}
use Rattle.cache_terms.specs.declared.events.Reply.{Reply}
use Rattle.line_base.specs.Foretold.{answer_told}
use Rattle.line_base.specs.Lines.{Entry, Line, failures}
use Rattle.workload.specs.Replying.{IsReplied}

-- the call was answered by what the shop replies to it
abbrev pub IsAsReplied : Entry → Type 0
IsAsReplied e = (o : Option Reply) × IsReplied e.call o × (e.answer ≡ answer_told o)

-- the line with these calls
abbrev pub shop_line : List Entry → Line
shop_line log = record { log = Some log; calls = length log; faults = λ sub. failures sub log; foretold = None }
