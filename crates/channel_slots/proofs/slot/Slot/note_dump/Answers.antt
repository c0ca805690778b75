use Rattle.std.proofs.Common.{refl}
use Rattle.channel_slots.proofs.slot.Slot.note_dump.Goals as goal

pub returns-then-matches-clause-shown : goal.returns-then-matches-clause-shown
returns-then-matches-clause-shown c = refl

pub returns-else-matches-clause-shown : goal.returns-else-matches-clause-shown
returns-else-matches-clause-shown c = refl
