use Rattle.std.proofs.Common.{rules}
use Rattle.channel_slots.proofs.slot.Slot.rest.Goals as goal

pub invariant_of-self : goal.invariant_of-self
invariant_of-self c = search rules
