use Rattle.channels.proofs.searched.Searched.prn.Goals as goal

pub returns : goal.returns
returns c = rw c.plan.ensures at c.prn.ensures
