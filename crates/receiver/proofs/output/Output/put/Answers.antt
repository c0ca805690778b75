use Rattle.std.proofs.Common.{arith}
use Rattle.std.proofs.lemmas.Grind.{common_steps}
use Rattle.receiver.proofs.output.Output.put.Goals as goal

pub returns-clause-puts : goal.returns-clause-puts
returns-clause-puts c = grind (arith, common_steps)
