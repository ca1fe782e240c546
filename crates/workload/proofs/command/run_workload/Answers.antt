use Rattle.workload.proofs.command.run_workload.Goals as goal

pub returns-clause-runs : goal.returns-clause-runs
returns-clause-runs g c = (c.run.result, c.status.ensures, c.run.ensures.finishes)
