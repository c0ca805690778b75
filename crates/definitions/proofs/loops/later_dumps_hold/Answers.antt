use Rattle.definitions.proofs.LoopStepLemmas.{holds}
use Rattle.definitions.proofs.loops.later_dumps_hold.Goals as goal

pub returns : goal.returns
returns c = holds
