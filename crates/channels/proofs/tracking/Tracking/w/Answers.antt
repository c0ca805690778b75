use Rattle.std.proofs.Common.{rules}
use Rattle.channels.proofs.tracking.Tracking.w.Goals as goal

pub returns-clause-is : goal.returns-clause-is
returns-clause-is c = search rules
