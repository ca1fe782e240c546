use Rattle.std.proofs.Common.{length}
use Rattle.book_index.proofs.subgraph_holders.SubgraphHolders.+add_all.Given as goal

abbrev pub decreases-add_all : goal.decreases-add_all
decreases-add_all l = length l.names.now
