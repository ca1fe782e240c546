use Rattle.rehearsal.proofs.command.rehearse.Goals as goal

pub returns-clause-rehearsed : goal.returns-clause-rehearsed
returns-clause-rehearsed g c = (c.run.result, c.status.ensures, c.run.ensures.rehearses)
