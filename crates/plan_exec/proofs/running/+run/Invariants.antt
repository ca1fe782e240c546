use Rattle.std.proofs.Common.{◌≡◌, ◌++◌, map, drop, length}
use Rattle.std.specs.Prelude.{◌==◌, ◌&&◌}
use Rattle.plan_exec.specs.Exec.{exec, one_by_one, side_by_side}
use Rattle.plan_exec.specs.Levels.{first_of, each_of}
use Rattle.plan_exec.specs.Tasks.{task_of, asked_if}
use Rattle.plan_exec.proofs.running.+run.Given as goal

abbrev pub invariant-run_in_turn-loop-node : goal.invariant-run_in_turn-loop-node
invariant-run_in_turn-loop-node l = record {
  value : one_by_one (map (exec l.fetches l.given) (drop l.node-index l.nodes)) l.value ≡ one_by_one (map (exec l.fetches l.given) l.nodes) l.fn.start;
  asked : l.tasks.items ++ asked_if (l.asking && (length l.tasks.items == l.before)) (map (task_of l.fetches) (first_of l.fetches l.given (drop l.node-index l.nodes) l.value))
      ≡ l.fn.tasks.items ++ asked_if l.asking (map (task_of l.fetches) (first_of l.fetches l.given l.nodes l.fn.start));
}

abbrev pub invariant-run_side_by_side-loop-node : goal.invariant-run_side_by_side-loop-node
invariant-run_side_by_side-loop-node l = record {
  value : side_by_side (map (exec l.fetches l.given) (drop l.node-index l.nodes)) l.start l.value ≡ side_by_side (map (exec l.fetches l.given) l.nodes) l.start l.start;
  asked : l.tasks.items ++ asked_if l.asking (map (task_of l.fetches) (each_of l.fetches l.given (drop l.node-index l.nodes) l.start))
      ≡ l.fn.tasks.items ++ asked_if l.asking (map (task_of l.fetches) (each_of l.fetches l.given l.nodes l.start));
}
