use Rattle.case_run.proofs.command.ask.Goals as goal

pub returns-clause-asked : goal.returns-clause-asked
returns-clause-asked g c = (c.run.result, c.status.ensures, c.run.ensures.asks)
