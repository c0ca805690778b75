use Rattle.std.proofs.Common.{rules}
use Rattle.channel_slots.proofs.slot.Slot.cells_done.Goals as goal

pub returns-in-Idle : goal.returns-in-Idle
returns-in-Idle c = search rules
