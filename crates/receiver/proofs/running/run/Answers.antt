use Rattle.receiver.proofs.running.run.Goals as goal

pub returns-clause-runs : goal.returns-clause-runs
returns-clause-runs g c = c.run_to.ensures.runs
