use Rattle.std.proofs.Common.{rules, ◌≡◌, sym, ap, ◌∙◌, map, ◌∷◌, ◌++◌, List, ℕ, Bool, ◌<◌, length, refl, arith}
use Rattle.std.specs.Prelude.{◌==◌, ◌&&◌}
use Rattle.json_value.specs.declared.tree.Json.{Json}
use Rattle.plan_tree.specs.declared.plan.Node.{Node}
use Rattle.plan_exec.specs.declared.tasks.Task.{Task}
use Rattle.plan_exec.specs.Exec.{exec, one_by_one, side_by_side, pieces_of}
use Rattle.plan_exec.specs.Ready.{ready, Waiting}
use Rattle.plan_exec.specs.Levels.{first_of, each_of}
use Rattle.plan_exec.specs.Tasks.{task_of, asked_if}
use Rattle.plan_exec.proofs.Equations.{exec-fetch, exec-flatten, exec-sequence, exec-parallel, ready-fetch, ready-flatten, ready-sequence, ready-parallel}
use Rattle.plan_exec.proofs.Ends.{root_is}
use Rattle.plan_exec.proofs.Asking.{at_start, turn_value, turn_step, each_value, each_step}
use Rattle.plan_exec.proofs.running.+run.Goals as goal

pub run-returns-in_ok-run_root-in-Fetch-clause-value : goal.run-returns-in_ok-run_root-in-Fetch-clause-value
run-returns-in_ok-run_root-in-Fetch-clause-value t c =
    c.in_ok-run_root-in-Fetch.ensures.value ∙ sym (exec-fetch c.args.fetches.now c.args.given.now c.in-Fetch.fetch c.args.start) ∙ ap (λ (n : Node). exec c.args.fetches.now c.args.given.now n c.args.start) (sym c.in-Fetch.is)

pub run-returns-in_ok-run_root-in-Fetch-clause-tasks : goal.run-returns-in_ok-run_root-in-Fetch-clause-tasks
run-returns-in_ok-run_root-in-Fetch-clause-tasks t c =
    c.in_ok-run_root-in-Fetch.ensures.tasks ∙ ap (λ (ts : List Task). c.args.tasks.now.items ++ asked_if c.args.asking ts) (root_is c.args.fetches.now c.in-Fetch.fetch c.args.start (pieces_of c.args.given.now c.in-Fetch.fetch)
    ∙ ap (map (task_of c.args.fetches.now)) (sym (ready-fetch c.args.fetches.now c.args.given.now c.in-Fetch.fetch c.args.start) ∙ ap (λ (n : Node). ready c.args.fetches.now c.args.given.now n c.args.start) (sym c.in-Fetch.is)))

pub run-returns-in_ok-run_entities-in-Flatten-clause-value : goal.run-returns-in_ok-run_entities-in-Flatten-clause-value
run-returns-in_ok-run_entities-in-Flatten-clause-value t c =
    c.in_ok-run_entities-in-Flatten.ensures.value ∙ sym (exec-flatten c.args.fetches.now c.args.given.now c.in-Flatten.path c.in-Flatten.fetch c.args.start) ∙ ap (λ (n : Node). exec c.args.fetches.now c.args.given.now n c.args.start) (sym c.in-Flatten.is)

pub run-returns-in_ok-run_entities-in-Flatten-clause-tasks : goal.run-returns-in_ok-run_entities-in-Flatten-clause-tasks
run-returns-in_ok-run_entities-in-Flatten-clause-tasks t c =
    c.in_ok-run_entities-in-Flatten.ensures.tasks ∙ ap (λ (ws : List Waiting). c.args.tasks.now.items ++ asked_if c.args.asking (map (task_of c.args.fetches.now) ws))
    (sym (ready-flatten c.args.fetches.now c.args.given.now c.in-Flatten.path c.in-Flatten.fetch c.args.start) ∙ ap (λ (n : Node). ready c.args.fetches.now c.args.given.now n c.args.start) (sym c.in-Flatten.is))

pub run-returns-in_ok-run_in_turn-in-Sequence-clause-value : goal.run-returns-in_ok-run_in_turn-in-Sequence-clause-value
run-returns-in_ok-run_in_turn-in-Sequence-clause-value t c =
    c.in_ok-run_in_turn-in-Sequence.ensures.value ∙ ap (λ ns. one_by_one (map (exec c.args.fetches.now c.args.given.now) ns) c.args.start) c.as_slice.ensures ∙ sym (exec-sequence c.args.fetches.now c.args.given.now c.in-Sequence.nodes c.args.start)
    ∙ ap (λ (n : Node). exec c.args.fetches.now c.args.given.now n c.args.start) (sym c.in-Sequence.is)

pub run-returns-in_ok-run_in_turn-in-Sequence-clause-tasks : goal.run-returns-in_ok-run_in_turn-in-Sequence-clause-tasks
run-returns-in_ok-run_in_turn-in-Sequence-clause-tasks t c =
    c.in_ok-run_in_turn-in-Sequence.ensures.tasks ∙ ap (λ (ws : List Waiting). c.args.tasks.now.items ++ asked_if c.args.asking (map (task_of c.args.fetches.now) ws))
    (ap (λ ns. first_of c.args.fetches.now c.args.given.now ns c.args.start) c.as_slice.ensures ∙ sym (ready-sequence c.args.fetches.now c.args.given.now c.in-Sequence.nodes c.args.start) ∙ ap (λ (n : Node). ready c.args.fetches.now c.args.given.now n c.args.start) (sym c.in-Sequence.is))

pub run-returns-in_ok-run_side_by_side-in-Parallel-clause-value : goal.run-returns-in_ok-run_side_by_side-in-Parallel-clause-value
run-returns-in_ok-run_side_by_side-in-Parallel-clause-value t c =
    c.in_ok-run_side_by_side-in-Parallel.ensures.value ∙ ap (λ ns. side_by_side (map (exec c.args.fetches.now c.args.given.now) ns) c.args.start c.args.start) c.as_slice-in-Parallel.ensures
    ∙ sym (exec-parallel c.args.fetches.now c.args.given.now c.in-Parallel.nodes c.args.start) ∙ ap (λ (n : Node). exec c.args.fetches.now c.args.given.now n c.args.start) (sym c.in-Parallel.is)

pub run-returns-in_ok-run_side_by_side-in-Parallel-clause-tasks : goal.run-returns-in_ok-run_side_by_side-in-Parallel-clause-tasks
run-returns-in_ok-run_side_by_side-in-Parallel-clause-tasks t c =
    c.in_ok-run_side_by_side-in-Parallel.ensures.tasks ∙ ap (λ (ws : List Waiting). c.args.tasks.now.items ++ asked_if c.args.asking (map (task_of c.args.fetches.now) ws))
    (ap (λ ns. each_of c.args.fetches.now c.args.given.now ns c.args.start) c.as_slice-in-Parallel.ensures ∙ sym (ready-parallel c.args.fetches.now c.args.given.now c.in-Parallel.nodes c.args.start) ∙ ap (λ (n : Node). ready c.args.fetches.now c.args.given.now n c.args.start) (sym c.in-Parallel.is))

pub run_in_turn-loop-node-init : goal.run_in_turn-loop-node-init
run_in_turn-loop-node-init t c =
    let same : c.len-before.result ≡ length c.args.tasks.now.items = omega (arith, c.len-before.ensures, c.args.tasks.now.ok.0) in
    record {
      value = refl;
      asked = at_start c.args.asking c.len-before.result c.args.tasks.now.items (map (task_of c.args.fetches.now) (first_of c.args.fetches.now c.args.given.now c.args.nodes.now c.args.start)) same;
    }

pub run_in_turn-loop-node-preserved : goal.run_in_turn-loop-node-preserved
run_in_turn-loop-node-preserved t c =
    let short : c.loop-node.node-index < length c.args.nodes.now = omega arith in
    let count : c.len.result ≡ length c.loop-node.tasks.items = omega (arith, c.len.ensures, c.loop-node.tasks.ok.0) in
    let still_is : c.still_asks-still.result ≡ (c.args.asking && (length c.loop-node.tasks.items == c.len-before.result)) = c.still_asks-still.ensures ∙ ap (λ (n : ℕ). c.args.asking && (n == c.len-before.result)) count in
    record {
      value = turn_value c.args.fetches.now c.args.given.now c.args.nodes.now c.loop-node.node-index c.node-item.result c.loop-node.value c.in_ok-value.value _ short c.node-item.is c.in_ok-value.ensures.value c.loop-node.invariant.value;
      asked = turn_step c.args.fetches.now c.args.given.now c.args.nodes.now c.loop-node.node-index c.node-item.result c.loop-node.value c.in_ok-value.value c.args.asking c.len-before.result c.loop-node.tasks.items c.run.new.tasks.items _ short c.node-item.is
          c.in_ok-value.ensures.value
          (c.in_ok-value.ensures.tasks ∙ ap (λ (b : Bool). c.loop-node.tasks.items ++ asked_if b (map (task_of c.args.fetches.now) (ready c.args.fetches.now c.args.given.now c.node-item.result c.loop-node.value))) still_is) c.loop-node.invariant.asked;
    }

pub run_side_by_side-loop-node-preserved : goal.run_side_by_side-loop-node-preserved
run_side_by_side-loop-node-preserved t c =
    let short : c.loop-node.node-index < length c.args.nodes.now = omega arith in
    record {
      value = each_value c.args.fetches.now c.args.given.now c.args.nodes.now c.loop-node.node-index c.node-item.result c.args.start.now c.in_ok-copy.field-0 c.loop-node.value c.in_ok-other.other c.in_ok-value-2.value _ short c.node-item.is
          c.in_ok-copy.ensures c.in_ok-other.ensures.value c.in_ok-value-2.ensures c.loop-node.invariant.value;
      asked = each_step c.args.fetches.now c.args.given.now c.args.nodes.now c.loop-node.node-index c.node-item.result c.args.start.now c.in_ok-copy.field-0 c.args.asking c.loop-node.tasks.items c.run.new.tasks.items _ short c.node-item.is c.in_ok-copy.ensures
          c.in_ok-other.ensures.tasks c.loop-node.invariant.asked;
    }
