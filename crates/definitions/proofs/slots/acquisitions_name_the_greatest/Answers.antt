use Rattle.definitions.proofs.EventLemmas.{acquisitions-right}
use Rattle.definitions.proofs.slots.acquisitions_name_the_greatest.Goals as goal

pub returns : goal.returns
returns c = acquisitions-right
