use Rattle.std.proofs.Common.{arith}
use Rattle.std.proofs.lemmas.Grind.{common_steps}
use Rattle.printed_lines.proofs.words.Line.make_answer.Goals as goal

pub returns : goal.returns
returns c = grind (arith, common_steps)
