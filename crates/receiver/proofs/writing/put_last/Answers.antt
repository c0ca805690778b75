use Rattle.receiver.proofs.writing.put_last.Goals as goal

pub returns-in-AtEnd-clause-adds : goal.returns-in-AtEnd-clause-adds
returns-in-AtEnd-clause-adds g c = rw c.in-AtEnd.is c.put_ends.ensures.adds
