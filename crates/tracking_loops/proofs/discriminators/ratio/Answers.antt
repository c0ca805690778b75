use Rattle.std.proofs.Common.{rules}
use Rattle.tracking_loops.proofs.discriminators.ratio.Goals as goal

pub returns-clause-is : goal.returns-clause-is
returns-clause-is c = search rules
