use Rattle.std.proofs.Common.{rules}
use Rattle.channels.proofs.followed.Followed.tracking.Goals as goal

pub returns-clause-none : goal.returns-clause-none
returns-clause-none c = search rules
