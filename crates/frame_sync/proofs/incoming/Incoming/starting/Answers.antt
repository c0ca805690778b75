use Rattle.std.proofs.Common.{rules}
use Rattle.frame_sync.proofs.incoming.Incoming.starting.Goals as goal

pub returns : goal.returns
returns c = search rules
