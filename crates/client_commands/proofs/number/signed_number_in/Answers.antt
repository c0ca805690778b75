use Rattle.std.proofs.Common.{arith}
use Rattle.std.proofs.lemmas.Grind.{common_steps}
use Rattle.client_commands.proofs.number.signed_number_in.Goals as goal

pub returns-in-45 : goal.returns-in-45
returns-in-45 c = grind (arith, common_steps)
