use Rattle.channels.proofs.FollowedLemmas.{lets-wait}
use Rattle.channels.proofs.followed.Followed.next_dump.Goals as goal

pub returns-clause-waits : goal.returns-clause-waits
returns-clause-waits c settings channel xs ys s rests =
    lets-wait settings channel xs ys c.args.self.now s (rw c.ends.ensures.value at rests)

pub returns-clause-value : goal.returns-clause-value
returns-clause-value c = c.ends.ensures.value
