use Rattle.std.proofs.Common.{rules}
use Rattle.slot_protocol.proofs.command.SlotNo.get.Goals as goal

pub returns-clause-same : goal.returns-clause-same
returns-clause-same c = search rules
