use Rattle.std.proofs.Common.{rules}
use Rattle.channels.proofs.tracking.Tracking.start.Goals as goal

pub returns-clause-stands : goal.returns-clause-stands
returns-clause-stands c = search rules
