use Rattle.std.proofs.Common.{refl}
use Rattle.acquisition.proofs.bin_steps.BinSteps.bin.Goals as goal

pub returns-clause-steps : goal.returns-clause-steps
returns-clause-steps c = refl
