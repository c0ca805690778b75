use Rattle.std.proofs.Common.{rules}
use Rattle.slot_protocol.proofs.answer.Refusal.number.Goals as goal

pub returns-in-Busy : goal.returns-in-Busy
returns-in-Busy c = search rules

pub returns-in-NoSuchSlot : goal.returns-in-NoSuchSlot
returns-in-NoSuchSlot c = search rules
