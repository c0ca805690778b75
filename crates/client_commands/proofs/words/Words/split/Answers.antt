use Rattle.std.proofs.Common.{arith}
use Rattle.std.proofs.lemmas.Grind.{common_steps}
use Rattle.client_commands.proofs.words.Words.split.Goals as goal

pub returns-then-len-count-clause-words : goal.returns-then-len-count-clause-words
returns-then-len-count-clause-words c = grind (arith, common_steps)
