use Rattle.std.proofs.Common.{◌≡◌, drop}
use Rattle.std.specs.List.{list_any}
use Rattle.std.specs.Str.{bytes_eq}
use Rattle.router_config.specs.Rules.{names}
use Rattle.case_file.proofs.subgraphs.has_name.Given as goal

abbrev pub invariant-loop-i : goal.invariant-loop-i
invariant-loop-i l = list_any (bytes_eq l.name) (names (drop l.i l.rules)) ≡ list_any (bytes_eq l.name) (names l.rules)
