use Rattle.std.proofs.Common.{arith}
use Rattle.std.proofs.lemmas.Grind.{common_steps}
use Rattle.receiver_cli.proofs.receiving.one_or_more.Goals as goal

pub returns-clause-scripts : goal.returns-clause-scripts
returns-clause-scripts c = grind (arith, common_steps)

pub loop-text-preserved : goal.loop-text-preserved
loop-text-preserved c = grind (arith, common_steps)
