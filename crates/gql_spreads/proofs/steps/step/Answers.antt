use Rattle.std.proofs.Common.{ℕ, ◌<◌, ◌≤◌, subst, sym, refl}
use Rattle.gql_spreads.proofs.Stepping.{leave_within, leave_marked, leave_step, node_within, node_marked, swallow_two, swallow_step, circle_step, skip_step, enter_step}
use Rattle.gql_spreads.proofs.steps.step.Goals as goal

pub leave-requires-clause-within : goal.leave-requires-clause-within
leave-requires-clause-within c = leave_within c.args.graph.now c.args.search.now c.index-group.result.now c.len.result c.requires.some c.requires.keeps c.len.ensures c.index-group.ensures

pub leave-requires-clause-marked : goal.leave-requires-clause-marked
leave-requires-clause-marked c = leave_marked c.args.graph.now c.args.search.now c.index-group.result.now c.len.result c.requires.some c.requires.keeps c.len.ensures c.index-group.ensures

pub returns-then-len-group : goal.returns-then-len-group
returns-then-len-group c = leave_step c.args.graph.now c.args.search.now c.index-group.result.now c.len.result c.requires.some c.requires.keeps c.len.ensures c.index-group.ensures
    c.leave.new.search (subst (λ (n : ℕ). n ≤ c.index-group.result.now.edge) c.len-2.ensures c.if-len-group.true) c.leave.ensures.marks c.leave.ensures.nodes c.leave.ensures.edges c.leave.ensures.groups

pub index-requires : goal.index-requires
index-requires c = node_marked c.args.graph.now c.args.search.now c.index-group.result.now c.len.result c.requires.some c.requires.keeps c.len.ensures c.index-group.ensures
    c.index-node.result.now c.len-3.result (subst (λ (n : ℕ). c.index-group.result.now.edge < n) c.len-2.ensures c.if-len-group.false) c.len-3.ensures c.index-node.ensures c.requires.graph

pub swallow-requires : goal.swallow-requires
swallow-requires c = swallow_two c.args.graph.now c.args.search.now c.index-group.result.now c.len.result c.requires.some c.requires.keeps c.len.ensures c.index-group.ensures
    c.index-node.result.now c.len-3.result (subst (λ (n : ℕ). c.index-group.result.now.edge < n) c.len-2.ensures c.if-len-group.false) c.len-3.ensures c.index-node.ensures c.in-Open.place c.if-place-group.true

pub returns-then-place-group : goal.returns-then-place-group
returns-then-place-group c = swallow_step c.args.graph.now c.args.search.now c.index-group.result.now c.len.result c.requires.some c.requires.keeps c.len.ensures c.index-group.ensures
    c.index-node.result.now c.len-3.result (subst (λ (n : ℕ). c.index-group.result.now.edge < n) c.len-2.ensures c.if-len-group.false) c.len-3.ensures c.index-node.ensures
    c.swallow.new.search c.index.result.now c.in-Open.place c.requires.graph c.index.ensures c.in-Open.is c.if-place-group.true c.swallow.ensures.marks c.swallow.ensures.nodes c.swallow.ensures.edges c.swallow.ensures.groups

pub enter-requires-clause-marked : goal.enter-requires-clause-marked
enter-requires-clause-marked c = node_marked c.args.graph.now c.args.search.now c.index-group.result.now c.len.result c.requires.some c.requires.keeps c.len.ensures c.index-group.ensures
    c.index-node.result.now c.len-3.result (subst (λ (n : ℕ). c.index-group.result.now.edge < n) c.len-2.ensures c.if-len-group.false) c.len-3.ensures c.index-node.ensures c.requires.graph

pub enter-requires-clause-is_node : goal.enter-requires-clause-is_node
enter-requires-clause-is_node c = node_within c.args.graph.now c.args.search.now c.index-group.result.now c.len.result c.requires.some c.requires.keeps c.len.ensures c.index-group.ensures
    c.index-node.result.now c.len-3.result (subst (λ (n : ℕ). c.index-group.result.now.edge < n) c.len-2.ensures c.if-len-group.false) c.len-3.ensures c.index-node.ensures c.requires.graph

pub returns-else-place-group : goal.returns-else-place-group
returns-else-place-group c = circle_step c.args.graph.now c.args.search.now c.index-group.result.now c.len.result c.requires.some c.requires.keeps c.len.ensures c.index-group.ensures
    c.index-node.result.now c.len-3.result (subst (λ (n : ℕ). c.index-group.result.now.edge < n) c.len-2.ensures c.if-len-group.false) c.len-3.ensures c.index-node.ensures
    c.circle.new.search c.index.result.now c.in-Open.place c.requires.graph c.index.ensures c.in-Open.is c.if-place-group.false c.circle.ensures.marks c.circle.ensures.nodes c.circle.ensures.edges c.circle.ensures.groups

pub returns-in-Done : goal.returns-in-Done
returns-in-Done c = skip_step c.args.graph.now c.args.search.now c.index-group.result.now c.len.result c.requires.some c.requires.keeps c.len.ensures c.index-group.ensures
    c.index-node.result.now c.len-3.result (subst (λ (n : ℕ). c.index-group.result.now.edge < n) c.len-2.ensures c.if-len-group.false) c.len-3.ensures c.index-node.ensures
    (record { marks = c.args.search.now.marks; nodes = c.args.search.now.nodes; edges = c.pop.new.self; groups = c.args.search.now.groups }) c.index.result.now c.in-Done.field-0 c.requires.graph c.index.ensures c.in-Done.is refl refl c.pop.ensures.rest refl

pub returns-in_ok-enter-in-Fresh : goal.returns-in_ok-enter-in-Fresh
returns-in_ok-enter-in-Fresh c = enter_step c.args.graph.now c.args.search.now c.index-group.result.now c.len.result c.requires.some c.requires.keeps c.len.ensures c.index-group.ensures
    c.index-node.result.now c.len-3.result (subst (λ (n : ℕ). c.index-group.result.now.edge < n) c.len-2.ensures c.if-len-group.false) c.len-3.ensures c.index-node.ensures
    c.enter.new.search c.index.result.now c.pop-in-Fresh.new.self.items c.pop-in-Fresh.new.self.len c.requires.graph c.index.ensures c.in-Fresh.is c.pop-in-Fresh.ensures.rest c.pop-in-Fresh.new.self.ok.0
    c.in_ok-enter-in-Fresh.ensures.marks c.in_ok-enter-in-Fresh.ensures.nodes c.in_ok-enter-in-Fresh.ensures.edges c.in_ok-enter-in-Fresh.ensures.groups
