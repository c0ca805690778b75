use Rattle.std.proofs.Common.{rules}
use Rattle.tracking_loops.proofs.steering.clamp_shift.Goals as goal

pub returns-clause-is : goal.returns-clause-is
returns-clause-is c = search rules
