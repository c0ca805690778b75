use Rattle.std.proofs.Common.{rules}
use Rattle.seldomplough.proofs.receiver.Receiver.open.Goals as goal

pub returns-clause-clients : goal.returns-clause-clients
returns-clause-clients c = search rules
