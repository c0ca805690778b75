use Rattle.definitions.proofs.DumpLemmas.{are-dumps}
use Rattle.definitions.proofs.slots.dumps_are_plain_sums.Goals as goal

pub returns : goal.returns
returns c = are-dumps
