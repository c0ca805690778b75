use Rattle.std.proofs.Common.{rules}
use Rattle.seldomplough.proofs.receiver.outcome.Goals as goal

pub returns-in-Accepted : goal.returns-in-Accepted
returns-in-Accepted c = search rules
