use Rattle.channels.proofs.searched.Searched.due.Goals as goal

pub returns-clause-value : goal.returns-clause-value
returns-clause-value c = c.due.ensures.value
