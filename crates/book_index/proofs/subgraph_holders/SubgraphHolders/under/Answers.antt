use Rattle.std.specs.List.{IsDistinct}
use Rattle.book_index.proofs.subgraph_holders.SubgraphHolders.under.Goals as goal

pub returns-in-None-clause-once : goal.returns-in-None-clause-once
unfolding IsDistinct
returns-in-None-clause-once c = tt
