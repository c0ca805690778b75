use Rattle.definitions.proofs.FewLemmas.{tells-few}
use Rattle.definitions.proofs.slots.slot_emits_few.Goals as goal

pub returns : goal.returns
returns c = tells-few
