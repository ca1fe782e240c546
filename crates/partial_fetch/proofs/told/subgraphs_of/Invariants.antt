use Rattle.std.proofs.Common.{◌≡◌, take, map}
use Rattle.partial_fetch.specs.Answering.{subgraph_of}
use Rattle.partial_fetch.proofs.told.subgraphs_of.Given as goal

abbrev pub invariant-loop-rule : goal.invariant-loop-rule
invariant-loop-rule l = l.subgraphs.items ≡ map subgraph_of (take l.rule-index l.rules)
