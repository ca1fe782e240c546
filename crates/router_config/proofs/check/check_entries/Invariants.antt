use Rattle.std.proofs.Common.{◌≡◌, drop}
use Rattle.router_config.specs.Faults.{faults_from, faults_of}
use Rattle.router_config.proofs.check.check_entries.Given as goal

abbrev pub invariant-loop-i : goal.invariant-loop-i
invariant-loop-i l = faults_from l.rules l.schema l.i (drop l.i l.entries) ≡ faults_of l.rules l.schema l.entries
