use Rattle.std.proofs.Common.{◌-◌, ◌≤◌}
use Rattle.http_wire.specs.EmptyLine.{NoEmptyLine}
use Rattle.http_wire.proofs.empty_line.empty_line_end.Given as goal

abbrev pub invariant-loop-at : goal.invariant-loop-at
invariant-loop-at l = record { none : NoEmptyLine l.bytes l.from l.at; after : l.from ≤ l.at }

abbrev pub decreases-loop-at : goal.decreases-loop-at
decreases-loop-at l = l.to - l.at
