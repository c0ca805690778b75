use Rattle.std.proofs.Common.{arith}
use Rattle.std.proofs.lemmas.Grind.{common_steps}
use Rattle.printed_lines.proofs.pages.put_characters.Goals as goal

pub loop-character-preserved : goal.loop-character-preserved
loop-character-preserved c = grind (arith, common_steps)
