use Rattle.definitions.proofs.LoopStepLemmas.{stays-within}
use Rattle.definitions.proofs.loops.loops_stay_within.Goals as goal

pub returns : goal.returns
returns c = stays-within
