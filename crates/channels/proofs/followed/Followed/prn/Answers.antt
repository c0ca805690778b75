use Rattle.channels.proofs.followed.Followed.prn.Goals as goal

pub returns : goal.returns
returns c = c.prn.ensures
