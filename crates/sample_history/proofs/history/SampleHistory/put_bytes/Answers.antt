use Rattle.std.proofs.Common.{arith}
use Rattle.std.proofs.lemmas.Grind.{common_steps}
use Rattle.sample_history.proofs.history.SampleHistory.put_bytes.Goals as goal

pub returns-then-inside-count-clause-bytes : goal.returns-then-inside-count-clause-bytes
returns-then-inside-count-clause-bytes c = grind (arith, common_steps)
