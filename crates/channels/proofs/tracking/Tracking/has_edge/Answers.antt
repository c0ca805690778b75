use Rattle.std.proofs.Common.{rules}
use Rattle.channels.proofs.tracking.Tracking.has_edge.Goals as goal

pub returns : goal.returns
returns c = search rules
