use Rattle.std.proofs.Common.{arith}
use Rattle.std.proofs.lemmas.Grind.{common_steps}
use Rattle.sample_history.proofs.history.SampleHistory.take.Goals as goal

pub returns-clause-stands : goal.returns-clause-stands
returns-clause-stands c = grind (arith, common_steps)
