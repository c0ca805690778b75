use Rattle.definitions.proofs.LoopStepLemmas.{code-steered}
use Rattle.definitions.proofs.loops.last_dump_steers_the_code.Goals as goal

pub returns : goal.returns
returns c = code-steered
