use Rattle.definitions.proofs.LoopStepLemmas.{pulls}
use Rattle.definitions.proofs.loops.first_dumps_pull.Goals as goal

pub returns : goal.returns
returns c = pulls
