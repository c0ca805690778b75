use Rattle.std.proofs.Common.{refl}
use Rattle.channels.proofs.followed.Followed.dumps.Goals as goal

pub returns : goal.returns
returns c = refl
