use Rattle.gql_spreads.proofs.Stepping.{root_fresh, root_seen, root_along}
use Rattle.gql_spreads.proofs.steps.explore.Goals as goal
use Rattle.gql_spreads.proofs.steps.explore.Goals.{in-Fresh+in_ok-enter, in_default}

pub loop-search-init : goal.loop-search-init
loop-search-init c = elim c.match-index.branch [
  | in-Fresh+in_ok-enter w ↦ root_along c.args.graph.now c.args.root c.args.search.now w.enter.new.search c.match-index.search w.search-is
      (root_fresh c.args.graph.now c.args.search.now w.enter.new.search c.args.root c.index.result.now c.requires.keeps c.requires.closed c.requires.root c.index.ensures w.in-Fresh.is
      w.in_ok-enter.ensures.marks w.in_ok-enter.ensures.nodes w.in_ok-enter.ensures.edges w.in_ok-enter.ensures.groups)
  | in_default w ↦ root_along c.args.graph.now c.args.root c.args.search.now c.args.search.now c.match-index.search w.search-is
      (root_seen c.args.graph.now c.args.search.now c.args.root c.index.result.now c.requires.keeps c.requires.root c.index.ensures w.in_default.not-Fresh)
]
