use Rattle.definitions.proofs.LoopStepLemmas.{in-phase-stays}
use Rattle.definitions.proofs.loops.signal_in_phase_stays.Goals as goal

pub returns : goal.returns
returns c = in-phase-stays
