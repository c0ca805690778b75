use Rattle.std.proofs.Common.{refl}
use Rattle.channels.proofs.follower.Follower.prn.Goals as goal

pub returns : goal.returns
returns c = refl
