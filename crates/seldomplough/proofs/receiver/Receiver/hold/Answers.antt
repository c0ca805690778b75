use Rattle.seldomplough.proofs.AnswerLemmas.{outcome-asks}
use Rattle.seldomplough.proofs.receiver.Receiver.hold.Goals as goal

pub returns : goal.returns
returns c = outcome-asks _ _ _ _ _ _ _ tt c.outcome.ensures c.command.ensures
