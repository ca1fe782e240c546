use Rattle.std.proofs.Common.{◌≡◌, ◌≤◌, ◌-◌, ◌^◌, drop}
use Rattle.line_base.specs.Told.{entries_told}
use Rattle.workload.specs.Between.{tickets_sent}
use Rattle.workload.specs.Tallying.{raised}
use Rattle.workload.proofs.counts.with_tickets.Given as goal

-- with the tickets that are left it is the whole
abbrev pub invariant-loop-told : goal.invariant-loop-told
invariant-loop-told l = record {
  whole : raised l.sum (tickets_sent (entries_told (drop l.told-index l.calls))) ≡ raised l.count (tickets_sent (entries_told l.calls));
  fits : l.sum ≤ 2 ^ 64 - 1;
}
