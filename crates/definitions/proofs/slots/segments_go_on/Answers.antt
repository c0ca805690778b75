use Rattle.definitions.proofs.PhaseLemmas.{segments-go-on}
use Rattle.definitions.proofs.slots.segments_go_on.Goals as goal

pub returns : goal.returns
returns c = segments-go-on
