use Rattle.channels.proofs.FollowingLemmas.{waits, waits_same}
use Rattle.channels.proofs.follower.Follower.ends.Goals as goal

pub returns-clause-waits : goal.returns-clause-waits
returns-clause-waits c settings channel xs ys s few = (
  waits settings channel xs ys c.args.self.now s few,
  waits_same settings channel xs ys c.args.self.now s few,
)
