use Rattle.definitions.proofs.EventLemmas.{counts-right}
use Rattle.definitions.proofs.slots.counts_are_dumps.Goals as goal

pub returns : goal.returns
returns c = counts-right
