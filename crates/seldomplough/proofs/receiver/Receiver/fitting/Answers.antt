use Rattle.std.proofs.Common.{rules}
use Rattle.seldomplough.proofs.receiver.Receiver.fitting.Goals as goal

pub returns-clause-most : goal.returns-clause-most
returns-clause-most c = search rules

pub returns-clause-room : goal.returns-clause-room
returns-clause-room c = search rules
