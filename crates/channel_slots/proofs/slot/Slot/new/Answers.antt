use Rattle.std.proofs.Common.{refl}
use Rattle.channel_slots.proofs.SlotLemmas.{stands-new}
use Rattle.channel_slots.proofs.slot.Slot.new.Goals as goal

pub returns-clause-stands : goal.returns-clause-stands
returns-clause-stands c settings = stands-new settings _ refl
