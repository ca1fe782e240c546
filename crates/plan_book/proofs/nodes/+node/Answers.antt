use Rattle.std.proofs.Common.{◌≡◌, ◌≢◌, ap, sym, Ok, Err, Some, None, length, suc, ◌+◌, ◌*◌, ◌<◌, ◌≤◌, map, arith}
use Rattle.std.specs.Prelude.{codes}
use Rattle.json_value.specs.Heights.{height, items_height}
use Rattle.json_value.proofs.Elements.{read}
use Rattle.json_value.proofs.Heights.{item-height}
use Rattle.plan_tree.specs.Lawful.{depth, deepest}
use Rattle.plan_tree.specs.declared.plan.Node.TheVariants as node
use Rattle.plan_book.specs.declared.fault.PlanFault.TheVariants as faults
use Rattle.plan_book.specs.declared.kinds.Kind.TheVariants as kinds
use Rattle.plan_book.specs.Forms.{kind_of}
use Rattle.plan_book.specs.Nodes.{IsNode, AreNodes, of_no_kind, is_sequence, is_parallel}
use Rattle.plan_book.specs.Drafts.{so_far}
use Rattle.plan_book.proofs.Deeper.{children_below}
use Rattle.plan_book.proofs.Depths.{depth-sequence, depth-parallel, deepens_as, deepens_twice, deepens_more, deepens_none}
use Rattle.plan_book.proofs.Noding.{of_kind, without_nodes, with_nodes, nodes_begin, nodes_next, nodes_stop, nodes_end, handed, IfOk-map, IfErr-map}
use Rattle.plan_book.proofs.nodes.+node.Goals as goal

pub inside-returns-in_default-clause-fault : goal.inside-returns-in_default-clause-fault
inside-returns-in_default-clause-fault t c = λ ne.
    let e = c.bad_member.ensures ne in
    rw e (without_nodes c.args.standing (so_far c.args.draft.now) c.args.value.now (sym c.in_default.ensures))

pub inside-nodes-requires : goal.inside-nodes-requires
inside-nodes-requires t c =
    let below : 3 * items_height c.in-Some.values.now + 2 < 3 * height c.args.value.now = children_below c.args.value.now (codes "nodes") c.in-Some.values.now (sym c.in-Some.ensures) in
    let same : items_height c.as_slice.result.now ≡ items_height c.in-Some.values.now = ap items_height c.as_slice.ensures in
    (omega (arith, below, same, c.decreases), c.in_ok-enter.ensures.inside)

pub inside-returns-clause-nodes : goal.inside-returns-clause-nodes
inside-returns-clause-nodes t c =
    IfOk-map c.nodes.result c.nodes.ensures.nodes (λ ns h. with_nodes c.args.standing (so_far c.args.draft.now) c.args.value.now c.in-Some.values.now c.as_slice.result.now (so_far c.enter.new.draft) (Ok (ns, so_far c.nodes.new.draft))
    (sym c.in-Some.ensures) c.as_slice.ensures c.in_ok-enter.ensures.nodes h)

pub inside-returns-clause-fault : goal.inside-returns-clause-fault
inside-returns-clause-fault t c =
    IfErr-map c.nodes.result c.nodes.ensures.fault (λ f h ne. with_nodes c.args.standing (so_far c.args.draft.now) c.args.value.now c.in-Some.values.now c.as_slice.result.now (so_far c.enter.new.draft) (Err f)
    (sym c.in-Some.ensures) c.as_slice.ensures c.in_ok-enter.ensures.nodes (h ne))

pub inside-returns-clause-levels : goal.inside-returns-clause-levels
inside-returns-clause-levels t c =
    IfOk-map c.nodes.result c.nodes.ensures.levels (λ ns h. deepens_twice c.args.draft.now c.enter.new.draft c.nodes.new.draft c.args.around 1 (c.args.around + 1) (deepest (map depth ns)) (suc (deepest (map depth ns)))
    c.in_ok-enter.ensures.levels h (omega arith))

pub node-inside-requires : goal.node-inside-requires
node-inside-requires t c = (omega (arith, c.decreases), c.requires)

pub node-returns-in_err-nodes-in-Some-Sequence-clause-fault : goal.node-returns-in_err-nodes-in-Some-Sequence-clause-fault
node-returns-in_err-nodes-in-Some-Sequence-clause-fault t c =
    let k : kind_of c.args.value.now ≡ Some kinds.Sequence = cc in
    handed (λ f. f ≢ faults.Memory → IsNode c.args.standing (so_far c.args.draft.now) c.args.value.now (Err f)) c.from_residual.result c.in_err-nodes-in-Some-Sequence.field-0.0 c.from_residual.ensures.1
    (λ ne. of_kind c.args.standing (so_far c.args.draft.now) c.args.value.now (Some kinds.Sequence) (Err c.in_err-nodes-in-Some-Sequence.field-0.0) k
    (is_sequence {r = Err c.in_err-nodes-in-Some-Sequence.field-0.0} (c.in_err-nodes-in-Some-Sequence.ensures.fault ne)))

pub node-returns-in_err-nodes-in-Some-Parallel-clause-fault : goal.node-returns-in_err-nodes-in-Some-Parallel-clause-fault
node-returns-in_err-nodes-in-Some-Parallel-clause-fault t c =
    let k : kind_of c.args.value.now ≡ Some kinds.Parallel = cc in
    handed (λ f. f ≢ faults.Memory → IsNode c.args.standing (so_far c.args.draft.now) c.args.value.now (Err f)) c.from_residual-in_err-nodes-in-Some-Parallel.result c.in_err-nodes-in-Some-Parallel.field-0.0
    c.from_residual-in_err-nodes-in-Some-Parallel.ensures.1
    (λ ne. of_kind c.args.standing (so_far c.args.draft.now) c.args.value.now (Some kinds.Parallel) (Err c.in_err-nodes-in-Some-Parallel.field-0.0) k
    (is_parallel {r = Err c.in_err-nodes-in-Some-Parallel.field-0.0} (c.in_err-nodes-in-Some-Parallel.ensures.fault ne)))

pub node-returns-in-Some-Fetch-clause-node : goal.node-returns-in-Some-Fetch-clause-node
node-returns-in-Some-Fetch-clause-node t c =
    let k : kind_of c.args.value.now ≡ Some kinds.Fetch = cc in
    IfOk-map c.fetch_node.result c.fetch_node.ensures.node (λ n h. of_kind c.args.standing (so_far c.args.draft.now) c.args.value.now (Some kinds.Fetch) (Ok (n, so_far c.fetch_node.new.draft)) k h)

pub node-returns-in-Some-Fetch-clause-fault : goal.node-returns-in-Some-Fetch-clause-fault
node-returns-in-Some-Fetch-clause-fault t c =
    let k : kind_of c.args.value.now ≡ Some kinds.Fetch = cc in
    IfErr-map c.fetch_node.result c.fetch_node.ensures.fault (λ f h ne. of_kind c.args.standing (so_far c.args.draft.now) c.args.value.now (Some kinds.Fetch) (Err f) k (h ne))

pub node-returns-in-Some-Flatten-clause-node : goal.node-returns-in-Some-Flatten-clause-node
node-returns-in-Some-Flatten-clause-node t c =
    let k : kind_of c.args.value.now ≡ Some kinds.Flatten = cc in
    IfOk-map c.flatten_node.result c.flatten_node.ensures.node (λ n h. of_kind c.args.standing (so_far c.args.draft.now) c.args.value.now (Some kinds.Flatten) (Ok (n, so_far c.flatten_node.new.draft)) k h)

pub node-returns-in-Some-Flatten-clause-fault : goal.node-returns-in-Some-Flatten-clause-fault
node-returns-in-Some-Flatten-clause-fault t c =
    let k : kind_of c.args.value.now ≡ Some kinds.Flatten = cc in
    IfErr-map c.flatten_node.result c.flatten_node.ensures.fault (λ f h ne. of_kind c.args.standing (so_far c.args.draft.now) c.args.value.now (Some kinds.Flatten) (Err f) k (h ne))

pub node-returns-in_ok-nodes-in-Some-Sequence-clause-node : goal.node-returns-in_ok-nodes-in-Some-Sequence-clause-node
node-returns-in_ok-nodes-in-Some-Sequence-clause-node t c =
    let k : kind_of c.args.value.now ≡ Some kinds.Sequence = cc in
    of_kind c.args.standing (so_far c.args.draft.now) c.args.value.now (Some kinds.Sequence) (Ok (node.Sequence c.in_ok-nodes-in-Some-Sequence.nodes, so_far c.inside.new.draft)) k
    (is_sequence {r = Ok (c.in_ok-nodes-in-Some-Sequence.nodes, so_far c.inside.new.draft)} c.in_ok-nodes-in-Some-Sequence.ensures.nodes)

pub node-returns-in_ok-nodes-in-Some-Sequence-clause-levels : goal.node-returns-in_ok-nodes-in-Some-Sequence-clause-levels
node-returns-in_ok-nodes-in-Some-Sequence-clause-levels t c =
    deepens_as c.args.draft.now c.inside.new.draft c.args.around (suc (deepest (map depth c.in_ok-nodes-in-Some-Sequence.nodes))) (depth (node.Sequence c.in_ok-nodes-in-Some-Sequence.nodes))
    (depth-sequence c.in_ok-nodes-in-Some-Sequence.nodes) c.in_ok-nodes-in-Some-Sequence.ensures.levels

pub node-returns-in_ok-nodes-in-Some-Parallel-clause-node : goal.node-returns-in_ok-nodes-in-Some-Parallel-clause-node
node-returns-in_ok-nodes-in-Some-Parallel-clause-node t c =
    let k : kind_of c.args.value.now ≡ Some kinds.Parallel = cc in
    of_kind c.args.standing (so_far c.args.draft.now) c.args.value.now (Some kinds.Parallel) (Ok (node.Parallel c.in_ok-nodes-in-Some-Parallel.nodes, so_far c.inside-in-Some-Parallel.new.draft)) k
    (is_parallel {r = Ok (c.in_ok-nodes-in-Some-Parallel.nodes, so_far c.inside-in-Some-Parallel.new.draft)} c.in_ok-nodes-in-Some-Parallel.ensures.nodes)

pub node-returns-in_ok-nodes-in-Some-Parallel-clause-levels : goal.node-returns-in_ok-nodes-in-Some-Parallel-clause-levels
node-returns-in_ok-nodes-in-Some-Parallel-clause-levels t c =
    deepens_as c.args.draft.now c.inside-in-Some-Parallel.new.draft c.args.around (suc (deepest (map depth c.in_ok-nodes-in-Some-Parallel.nodes))) (depth (node.Parallel c.in_ok-nodes-in-Some-Parallel.nodes))
    (depth-parallel c.in_ok-nodes-in-Some-Parallel.nodes) c.in_ok-nodes-in-Some-Parallel.ensures.levels

pub node-returns-in-None-clause-fault : goal.node-returns-in-None-clause-fault
node-returns-in-None-clause-fault t c = λ ne.
    let k : kind_of c.args.value.now ≡ None = cc in
    let here : c.len.result ≡ length c.args.draft.now.levels.items = omega (arith, c.args.draft.now.levels.ok.0) in
    rw here (of_kind c.args.standing (so_far c.args.draft.now) c.args.value.now None (Err (faults.Kind c.args.standing.entry (length c.args.draft.now.levels.items))) k of_no_kind)

pub nodes-node-requires : goal.nodes-node-requires
nodes-node-requires t c =
    let low : height c.index-values-i.result ≤ items_height c.args.values.now = item-height c.args.values.now c.loop-i.i c.index-values-i.result (read c.args.values.now c.loop-i.i c.index-values-i.result c.loop-i-test.true c.index-values-i.is) in
    let inside = c.requires in
    let levels = c.loop-i.invariant.levels in
    (omega (arith, low, c.decreases), record { noted = omega (arith, c.requires.noted, c.loop-i.invariant.levels.longer); reached = omega (arith, c.requires.reached, c.loop-i.invariant.levels.deepest_is) })

pub nodes-returns-in_err-one-clause-fault : goal.nodes-returns-in_err-one-clause-fault
nodes-returns-in_err-one-clause-fault t c =
    handed (λ f. f ≢ faults.Memory → AreNodes c.args.standing (so_far c.args.draft.now) c.args.values.now (Err f)) c.from_residual.result c.in_err-one.field-0.0 c.from_residual.ensures.1
    (λ ne. nodes_stop c.args.standing (so_far c.args.draft.now) c.args.values.now c.loop-i.i (so_far c.loop-i.draft) c.loop-i.made c.loop-i.invariant.run c.index-values-i.result c.loop-i-test.true c.index-values-i.is
    c.in_err-one.field-0.0 (c.in_err-one.ensures.fault ne))

pub nodes-loop-i-init : goal.nodes-loop-i-init
nodes-loop-i-init t c = record {
  run = rw c.new-made.ensures (nodes_begin c.args.standing (so_far c.args.draft.now) c.args.values.now);
  levels = deepens_none c.args.draft.now c.args.around c.new-made.result c.new-made.ensures c.requires;
}

pub nodes-loop-i-preserved : goal.nodes-loop-i-preserved
nodes-loop-i-preserved t c = record {
  run = rw c.in_ok-push.ensures.ok (nodes_next c.args.standing (so_far c.args.draft.now) c.args.values.now c.loop-i.i (so_far c.loop-i.draft) c.loop-i.made c.loop-i.invariant.run c.index-values-i.result c.loop-i-test.true c.index-values-i.is
      c.in_ok-one.one (so_far c.node.new.draft) c.in_ok-one.ensures.node);
  levels = deepens_more c.args.draft.now c.loop-i.draft c.node.new.draft c.args.around c.loop-i.made c.push.new.self c.in_ok-one.one c.loop-i.invariant.levels c.in_ok-one.ensures.levels c.in_ok-push.ensures.ok;
}

pub nodes-returns-clause-nodes : goal.nodes-returns-clause-nodes
nodes-returns-clause-nodes t c = nodes_end c.args.standing (so_far c.args.draft.now) c.args.values.now c.loop-i.i (so_far c.loop-i.draft) c.loop-i.made c.loop-i.invariant.run c.loop-i-test.false

pub nodes-returns-clause-levels : goal.nodes-returns-clause-levels
nodes-returns-clause-levels t c = c.loop-i.invariant.levels
