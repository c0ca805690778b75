use Rattle.std.proofs.Common.{rules}
use Rattle.seldomplough.proofs.receiver.Receiver.time.Goals as goal

pub returns-clause-taken : goal.returns-clause-taken
returns-clause-taken c = search rules
