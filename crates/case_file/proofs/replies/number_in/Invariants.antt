use Rattle.std.proofs.Common.{◌≡◌, drop}
use Rattle.router_config.specs.Rules.{number_from, number_of}
use Rattle.case_file.proofs.replies.number_in.Given as goal

abbrev pub invariant-loop-i : goal.invariant-loop-i
invariant-loop-i l = number_from l.i (drop l.i l.subs) l.name ≡ number_of l.subs l.name
