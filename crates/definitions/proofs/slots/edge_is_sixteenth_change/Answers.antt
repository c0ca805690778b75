use Rattle.definitions.proofs.SixteenthLemmas.{sixteenth}
use Rattle.definitions.proofs.slots.edge_is_sixteenth_change.Goals as goal

pub returns : goal.returns
returns c = sixteenth
