use Rattle.channels.proofs.searched.Searched.done.Goals as goal

pub returns : goal.returns
returns c = c.done.ensures.value
