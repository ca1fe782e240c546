use Rattle.std.proofs.Common.{take, false}
use Rattle.book_index.specs.Holders.{SetsHolders}
use Rattle.book_index.proofs.subgraph_holders.SubgraphHolders.remove_all.Given as goal

abbrev pub invariant-loop-name : goal.invariant-loop-name
invariant-loop-name l = SetsHolders l.fn.self l.self l.sub (take l.name-index l.names) l.position false
