use Rattle.definitions.proofs.EventLemmas.{events-right}
use Rattle.definitions.proofs.slots.events_are_right.Goals as goal

pub returns : goal.returns
returns c = events-right
