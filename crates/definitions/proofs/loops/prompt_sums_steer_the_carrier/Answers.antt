use Rattle.definitions.proofs.LoopStepLemmas.{prompts-steer}
use Rattle.definitions.proofs.loops.prompt_sums_steer_the_carrier.Goals as goal

pub returns : goal.returns
returns c = prompts-steer
