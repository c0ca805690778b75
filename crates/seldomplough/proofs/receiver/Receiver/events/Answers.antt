use Rattle.std.proofs.Common.{rules}
use Rattle.seldomplough.proofs.receiver.Receiver.events.Goals as goal

pub returns : goal.returns
returns c = search rules
