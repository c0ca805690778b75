use Rattle.std.proofs.Common.{refl}
use Rattle.client_commands.proofs.refusal.LineRefusal.number.Goals as goal

pub returns-in-WrongWordCount : goal.returns-in-WrongWordCount
returns-in-WrongWordCount c = rw c.in-WrongWordCount.is refl
